use Rattle.std.proofs.Common.{sym, subst, ap, ◌∙◌}
use Rattle.fof_terms.specs.Scope.{scope_sorts}
use Rattle.derive_kit.proofs.Built.{ok_map}
use Rattle.clause_form.specs.ClauseView.{form_of_lit}
use Rattle.clause_proofs.specs.Refuting.{body}
use Rattle.clause_proofs.proofs.BodySorts.{place_sorted, placed}
use Rattle.clause_proofs.proofs.Refutations.{more_arms}
use Rattle.clause_proofs.specs.code.Refuting.{RefutesUnder}
use Rattle.clause_form.specs.declared.clause.Lit.{Lit}
use Rattle.clause_proofs.proofs.refuting.all_settled.Goals as goal

pub settled-requires-clause-sorted : goal.settled-requires-clause-sorted
settled-requires-clause-sorted c =
    place_sorted c.args.signature.now (scope_sorts c.args.scope.now) c.args.lits.now c.loop-lit.lit-index c.lit-item.result c.requires.goal.sorted.scope_fits c.requires.sorted (placed c.args.lits.now c.loop-lit.lit-index c.lit-item.result c.loop-lit-test.true c.lit-item.is)

pub loop-lit-preserved : goal.loop-lit-preserved
loop-lit-preserved c =
    rw (c.in_ok-push.ensures.ok, c.into_inner.ensures)
    (more_arms c.args.signature.now (scope_sorts c.args.scope.now) (body c.args.line.now) (form_of_lit c.args.other.now) c.args.lits.now c.loop-lit.arms c.loop-lit.lit-index c.lit-item.result c.in_ok-arm.arm c.loop-lit-test.true c.loop-lit.invariant
    (subst (λ (x : Lit). RefutesUnder c.args.signature.now (scope_sorts c.args.scope.now) (body c.args.line.now) (form_of_lit c.args.other.now) (form_of_lit x) c.in_ok-arm.arm) c.lit-item.is c.in_ok-arm.ensures))
