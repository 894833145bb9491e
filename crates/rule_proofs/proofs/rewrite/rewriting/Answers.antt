use Rattle.std.proofs.Common.{sym, subst, ap, ◌∙◌, slice_get, List}
use Rattle.fof_terms.specs.Scope.{scope_sorts}
use Rattle.fof_terms.specs.Sorts.{Sorted}
use Rattle.clause_form.specs.declared.clause.Lit.{Lit}
use Rattle.clause_form.specs.ClauseView.{form_of_lit}
use Rattle.clause_proofs.proofs.BodySorts.{place_sorted}
use Rattle.clause_proofs.proofs.CoveredLiterals.{there_at}
use Rattle.rule_proofs.proofs.rewrite.rewriting.Goals as goal

pub by_equation-requires-clause-equation : goal.by_equation-requires-clause-equation
by_equation-requires-clause-equation c =
    let first = ap (λ (ls : List Lit). slice_get ls 0) c.requires.rewriting.1 in
    let same = c.in_ok-equation.ensures ∙ there_at c.args.from.lits c.as_slice.result.now 0 c.requires.rewriting.0 c.index-as_slice-0.result c.as_slice.ensures first c.index-as_slice-0.is in
    subst (λ (x : Lit). Sorted c.args.signature.now (scope_sorts c.args.scope.now) (form_of_lit x)) (sym same) (place_sorted c.args.signature.now (scope_sorts c.args.scope.now) c.args.from.lits 0 c.requires.rewriting.0 c.requires.goal.sorted.scope_fits c.requires.from first)
