use Rattle.std.proofs.Common.{arith, sym, ◌∙◌}
use Rattle.fof_terms.proofs.PlaceReach.{place_reach}
use Rattle.clause_form.proofs.NormFacts.{quantified-kept, quantified-dropped}
use Rattle.norm_proofs.specs.code.Links.{kind_of}
use Rattle.norm_proofs.proofs.BoundFacts.{stays_shows, goes_shows}
use Rattle.norm_proofs.proofs.bounds.quantified_step.Goals as goal

pub returns-then-has_variable-clause-norm : goal.returns-then-has_variable-clause-norm
returns-then-has_variable-clause-norm c =
    let used = rw c.get-2.ensures at (sym c.has_variable.ensures ∙ c.if-has_variable.true) in
    rw (c.in_ok-norm.ensures, c.kind.ensures, c.get-then-has_variable.ensures) (sym (quantified-kept (kind_of c.args.way.conjunction c.args.way.positive) c.args.sort c.args.norm used))

pub returns-then-has_variable-clause-part : goal.returns-then-has_variable-clause-part
returns-then-has_variable-clause-part c = λ n small l.
    let used = rw c.get-2.ensures at (sym c.has_variable.ensures ∙ c.if-has_variable.true) in
    rw (c.in_ok-linked.ensures, c.get.ensures) (stays_shows c.args.way.conjunction c.args.way.positive c.args.way.forth n c.args.sort c.args.body.now c.args.norm c.args.part small used l)

pub instantiate-requires : goal.instantiate-requires
instantiate-requires c = rw c.get-3.ensures (omega (arith, place_reach c.args.norm 0, c.requires.depth))

pub returns-clause-norm : goal.returns-clause-norm
returns-clause-norm c =
    let unused = rw c.get-2.ensures at (sym c.has_variable.ensures ∙ c.if-has_variable.false) in
    rw (c.in_ok-freed.ensures, c.in_ok-instantiate.ensures, c.get-3.ensures) (sym (quantified-dropped (kind_of c.args.way.conjunction c.args.way.positive) c.args.sort c.args.norm unused))

pub returns-clause-part : goal.returns-clause-part
returns-clause-part c = λ n small l.
    let unused = rw c.get-2.ensures at (sym c.has_variable.ensures ∙ c.if-has_variable.false) in
    rw c.in_ok-part.ensures
    (rw (c.in_ok-first.ensures, c.in_ok-quantifier.ensures, c.in_ok-linked.ensures, c.get.ensures, c.in_ok-last.ensures, c.in_ok-copy.ensures, c.get-4.ensures, c.get-5.ensures, c.get-6.ensures, c.kind-2.ensures, c.in_ok-freed.ensures, c.in_ok-instantiate.ensures, c.get-3.ensures)
    (goes_shows c.args.way.conjunction c.args.way.positive c.args.way.forth n c.args.sort c.args.body.now c.args.norm c.args.part small unused l))
