use Rattle.std.proofs.Common.{arith, sym, ◌∙◌}
use Rattle.clause_form.proofs.NormFacts.{quantified-dropped}
use Rattle.clause_form.proofs.Cases.{kept_all, kept_ex}
use Rattle.fof_terms.proofs.PlaceReach.{place_reach}
use Rattle.clause_form.proofs.Ok.{ok_map}
use Rattle.clause_form.proofs.joining.quantified.Goals as goal

pub instantiate-requires : goal.instantiate-requires
instantiate-requires c = omega (arith, place_reach c.args.body 0, c.requires)

pub returns-then-not-has_variable : goal.returns-then-not-has_variable
returns-then-not-has_variable c =
    ok_map c.instantiate.result (λ made e. e ∙ sym (quantified-dropped c.args.positive c.args.sort c.args.body (sym c.has_variable.ensures ∙ c.if-not-has_variable.true))) c.instantiate.ensures

pub returns-then-positive : goal.returns-then-positive
returns-then-positive c = kept_all _ _ _ _ _ c.if-positive.true c.has_variable.ensures c.if-not-has_variable.false c.in_ok-body.ensures

pub returns-else-positive : goal.returns-else-positive
returns-else-positive c = kept_ex _ _ _ _ _ c.if-positive.false c.has_variable.ensures c.if-not-has_variable.false c.in_ok-body.ensures
