use Rattle.std.proofs.Common.{sym, subst, ap, ◌∙◌, ◌≡◌, length}
use Rattle.fof_terms.specs.Scope.{scope_sorts}
use Rattle.fof_terms.specs.Sorts.{Sorted}
use Rattle.clause_form.specs.declared.clause.Lit.{Lit}
use Rattle.clause_form.specs.ClauseView.{form_of_lit}
use Rattle.clause_rules.specs.Steps.{equation}
use Rattle.clause_proofs.proofs.BodySorts.{place_sorted}
use Rattle.clause_proofs.proofs.CoveredLiterals.{there_at}
use Rattle.rule_proofs.proofs.Marks.{marks_here, paramodulant_rewrites, from_settled}
use Rattle.rule_proofs.proofs.paramodulation.paramodulant.Goals as goal

pub by_equation-requires-clause-rewriting : goal.by_equation-requires-clause-rewriting
by_equation-requires-clause-rewriting c =
    let mark : c.len-mark.result ≡ length c.args.images.now = c.len-mark.ensures ∙ ap length c.images.view_is in
    paramodulant_rewrites c.args.signature.now (scope_sorts c.args.scope.now) c.args.images.now c.args.lits.now c.args.into.lits c.requires.instances c.args.line.now.clause.lits c.args.from.lits c.args.change.now.into_lit c.args.change.now.at c.args.change.now.from_lit c.args.change.now.flipped c.requires.paramodulant c.requires.place c.as_slice-2.result.now
    (marks_here c.args.images.now c.args.lits.now c.args.change.now.into_lit c.args.change.now.at c.requires.place c.in_ok-marked.marked c.as_slice-2.result.now c.len-mark.result c.as_slice-2.ensures mark c.in_ok-marked.ensures)
    c.in_ok-equation.equation (c.in_ok-equation.ensures ∙ there_at c.args.from.lits c.as_slice.result.now c.args.change.now.from_lit (equation c.args.change.now.flipped c.requires.paramodulant.left c.requires.paramodulant.right) c.index-as_slice-change.result c.as_slice.ensures c.requires.paramodulant.in_from c.index-as_slice-change.is)

pub by_equation-requires-clause-settled : goal.by_equation-requires-clause-settled
by_equation-requires-clause-settled c =
    from_settled c.args.line.now.clause.lits c.args.into.lits c.args.from.lits c.args.change.now.into_lit c.args.change.now.at c.args.change.now.from_lit c.args.change.now.flipped c.requires.paramodulant c.in_ok-equation.equation (c.in_ok-equation.ensures ∙ there_at c.args.from.lits c.as_slice.result.now c.args.change.now.from_lit (equation c.args.change.now.flipped c.requires.paramodulant.left c.requires.paramodulant.right) c.index-as_slice-change.result c.as_slice.ensures c.requires.paramodulant.in_from c.index-as_slice-change.is)

pub by_equation-requires-clause-equation : goal.by_equation-requires-clause-equation
by_equation-requires-clause-equation c =
    subst (λ (x : Lit). Sorted c.args.signature.now (scope_sorts c.args.scope.now) (form_of_lit x)) (sym (c.in_ok-equation.ensures ∙ there_at c.args.from.lits c.as_slice.result.now c.args.change.now.from_lit (equation c.args.change.now.flipped c.requires.paramodulant.left c.requires.paramodulant.right) c.index-as_slice-change.result c.as_slice.ensures c.requires.paramodulant.in_from c.index-as_slice-change.is))
    (place_sorted c.args.signature.now (scope_sorts c.args.scope.now) c.args.from.lits c.args.change.now.from_lit (equation c.args.change.now.flipped c.requires.paramodulant.left c.requires.paramodulant.right) c.requires.goal.sorted.scope_fits c.requires.from c.requires.paramodulant.in_from)
