use Rattle.std.proofs.Common.{sym, subst, List}
use Rattle.fof_terms.specs.Scope.{scope_sorts}
use Rattle.fof_terms.specs.Sorts.{Sorted}
use Rattle.clause_form.specs.declared.clause.Lit.{Lit}
use Rattle.clause_form.specs.ClauseView.{form_of_lit}
use Rattle.clause_form.specs.Covers.{IsTrivial}
use Rattle.clause_proofs.proofs.CoveredLiterals.{there_at, in_line_sorted}
use Rattle.std.specs.Prelude.{slice_get, ◌≡◌, Some}
use Rattle.rule_proofs.proofs.tautology.true_by_form.Goals as goal

pub unreachable-requires : goal.unreachable-requires
unreachable-requires c = c.in-None.ensures.none (subst (λ (ls : List Lit). IsTrivial ls) (sym c.as_slice-lits.ensures) c.requires.trivial)

pub both_covered-requires-clause-sorted : goal.both_covered-requires-clause-sorted
both_covered-requires-clause-sorted c =
    let l = c.in-Some.ensures.some.0 in
    let at : slice_get c.args.line.now.clause.lits c.in-Some.at ≡ Some l = subst (λ (ls : List Lit). slice_get ls c.in-Some.at ≡ Some l) c.as_slice-lits.ensures c.in-Some.ensures.some.1 in
    let same = there_at c.args.line.now.clause.lits c.as_slice-lits.result.now c.in-Some.at l c.index-lits-at.result c.as_slice-lits.ensures at c.index-lits-at.is in
    subst (λ (x : Lit). Sorted c.args.signature.now (scope_sorts c.args.scope.now) (form_of_lit x)) (sym same) (in_line_sorted c.args.signature.now (scope_sorts c.args.scope.now) c.args.line.now c.in-Some.at l c.requires.goal at)
