use Rattle.std.proofs.Common.{sym, subst, ap, ◌∙◌}
use Rattle.fof_terms.specs.Scope.{scope_sorts}
use Rattle.fof_terms.specs.Sorts.{Sorted}
use Rattle.clause_form.specs.declared.clause.Lit.{Lit}
use Rattle.clause_form.specs.ClauseView.{form_of_lit}
use Rattle.clause_rules.specs.Steps.{equation}
use Rattle.clause_proofs.proofs.BodySorts.{place_sorted}
use Rattle.clause_proofs.proofs.CoveredLiterals.{there_at}
use Rattle.rule_proofs.proofs.Factors.{is_factoring, factor_settled}
use Rattle.rule_proofs.proofs.eqfactor.refute_factor.Goals as goal

pub two_equations-requires-clause-factoring : goal.two_equations-requires-clause-factoring
two_equations-requires-clause-factoring c = (c.requires.factored.side, c.requires.factored.first, c.requires.factored.second, is_factoring c.args.line.now.clause.lits c.args.premise.lits c.args.factor.first c.args.factor.first_flipped c.args.factor.second c.args.factor.second_flipped c.requires.factored c.in_ok-pivot.pivot c.in_ok-other.other (c.in_ok-pivot.ensures ∙ there_at c.args.premise.lits c.as_slice.result.now c.args.factor.first (equation c.args.factor.first_flipped c.requires.factored.side c.requires.factored.first) c.index-as_slice-factor.result c.as_slice.ensures c.requires.factored.first_there c.index-as_slice-factor.is) (c.in_ok-other.ensures ∙ there_at c.args.premise.lits c.as_slice-2.result.now c.args.factor.second (equation c.args.factor.second_flipped c.requires.factored.side c.requires.factored.second) c.index-as_slice-factor-2.result c.as_slice-2.ensures c.requires.factored.second_there c.index-as_slice-factor-2.is))

pub two_equations-requires-clause-pivot : goal.two_equations-requires-clause-pivot
two_equations-requires-clause-pivot c = subst (λ (x : Lit). Sorted c.args.signature.now (scope_sorts c.args.scope.now) (form_of_lit x)) (sym (c.in_ok-pivot.ensures ∙ there_at c.args.premise.lits c.as_slice.result.now c.args.factor.first (equation c.args.factor.first_flipped c.requires.factored.side c.requires.factored.first) c.index-as_slice-factor.result c.as_slice.ensures c.requires.factored.first_there c.index-as_slice-factor.is)) (place_sorted c.args.signature.now (scope_sorts c.args.scope.now) c.args.premise.lits c.args.factor.first (equation c.args.factor.first_flipped c.requires.factored.side c.requires.factored.first) c.requires.goal.sorted.scope_fits c.requires.sorted c.requires.factored.first_there)

pub two_equations-requires-clause-other : goal.two_equations-requires-clause-other
two_equations-requires-clause-other c = subst (λ (x : Lit). Sorted c.args.signature.now (scope_sorts c.args.scope.now) (form_of_lit x)) (sym (c.in_ok-other.ensures ∙ there_at c.args.premise.lits c.as_slice-2.result.now c.args.factor.second (equation c.args.factor.second_flipped c.requires.factored.side c.requires.factored.second) c.index-as_slice-factor-2.result c.as_slice-2.ensures c.requires.factored.second_there c.index-as_slice-factor-2.is)) (place_sorted c.args.signature.now (scope_sorts c.args.scope.now) c.args.premise.lits c.args.factor.second (equation c.args.factor.second_flipped c.requires.factored.side c.requires.factored.second) c.requires.goal.sorted.scope_fits c.requires.sorted c.requires.factored.second_there)

pub by_pivot-requires-clause-settled : goal.by_pivot-requires-clause-settled
by_pivot-requires-clause-settled c = factor_settled c.args.line.now.clause.lits c.args.premise.lits c.args.factor.first c.args.factor.first_flipped c.args.factor.second c.args.factor.second_flipped c.requires.factored c.in_ok-pivot.pivot (c.in_ok-pivot.ensures ∙ there_at c.args.premise.lits c.as_slice.result.now c.args.factor.first (equation c.args.factor.first_flipped c.requires.factored.side c.requires.factored.first) c.index-as_slice-factor.result c.as_slice.ensures c.requires.factored.first_there c.index-as_slice-factor.is)

pub by_pivot-requires-clause-pivot : goal.by_pivot-requires-clause-pivot
by_pivot-requires-clause-pivot c = subst (λ (x : Lit). Sorted c.args.signature.now (scope_sorts c.args.scope.now) (form_of_lit x)) (sym (c.in_ok-pivot.ensures ∙ there_at c.args.premise.lits c.as_slice.result.now c.args.factor.first (equation c.args.factor.first_flipped c.requires.factored.side c.requires.factored.first) c.index-as_slice-factor.result c.as_slice.ensures c.requires.factored.first_there c.index-as_slice-factor.is)) (place_sorted c.args.signature.now (scope_sorts c.args.scope.now) c.args.premise.lits c.args.factor.first (equation c.args.factor.first_flipped c.requires.factored.side c.requires.factored.first) c.requires.goal.sorted.scope_fits c.requires.sorted c.requires.factored.first_there)
