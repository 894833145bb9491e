use Rattle.std.proofs.Common.{rules, ◌≡◌, subst, reverse, Some}
use Rattle.fof_terms.proofs.ScopeFacts.{scope_sorts-Outside}
use Rattle.proof_check.proofs.HypothesesFacts.{hypotheses-Outside, crossed_in-Outside}
use Rattle.proof_check.specs.Concludes.{Concludes}
use Rattle.proof_check.proofs.ConcludedLists.{context_reach}
use Rattle.proof_check.proofs.deduction.conclude.Goals as goal

pub conclude_in-requires : goal.conclude_in-requires
conclude_in-requires c =
    rw (scope_sorts-Outside, hypotheses-Outside, crossed_in-Outside, c.as_slice-sorts.ensures, c.as_slice.ensures) (context_reach c.args.theory.now.vocabulary c.args.context.now.sorts c.args.context.now.hyps c.requires)

pub returns-in_ok-into_boxed-in-Some : goal.returns-in_ok-into_boxed-in-Some
returns-in_ok-into_boxed-in-Some c =
    let told : Concludes c.args.theory.now (reverse c.args.context.now.sorts) (reverse c.args.context.now.hyps) c.args.proof.now c.in_ok-finding.field-0 =
    rw (scope_sorts-Outside, hypotheses-Outside, c.as_slice-sorts.ensures, c.as_slice.ensures) at c.in_ok-finding.ensures in
    let same : c.in_ok-finding.field-0 ≡ Some c.into_inner.result = search (rules, c.in-Some.is, c.into_inner.ensures, c.in_ok-into_boxed-in-Some.ensures) in
    subst (Concludes c.args.theory.now (reverse c.args.context.now.sorts) (reverse c.args.context.now.hyps) c.args.proof.now) same told

pub returns-in-None : goal.returns-in-None
returns-in-None c =
    let told : Concludes c.args.theory.now (reverse c.args.context.now.sorts) (reverse c.args.context.now.hyps) c.args.proof.now c.in_ok-finding.field-0 =
    rw (scope_sorts-Outside, hypotheses-Outside, c.as_slice-sorts.ensures, c.as_slice.ensures) at c.in_ok-finding.ensures in
    subst (Concludes c.args.theory.now (reverse c.args.context.now.sorts) (reverse c.args.context.now.hyps) c.args.proof.now) c.in-None.is told
