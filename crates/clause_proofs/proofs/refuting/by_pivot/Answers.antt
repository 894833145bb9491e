use Rattle.std.proofs.Common.{sym, subst, ap, ◌∙◌}
use Rattle.fof_terms.specs.Scope.{scope_sorts}
use Rattle.derive_kit.proofs.Built.{ok_map}
use Rattle.clause_form.specs.ClauseView.{form_of_lit}
use Rattle.clause_proofs.specs.Refuting.{body}
use Rattle.fof_terms.specs.Sorts.{Sorted}
use Rattle.clause_form.specs.declared.clause.Lit.{Lit}
use Rattle.clause_proofs.proofs.BodySorts.{negated_sorted}
use Rattle.clause_proofs.proofs.refuting.by_pivot.Goals as goal

pub refuted-requires-clause-other : goal.refuted-requires-clause-other
refuted-requires-clause-other c = subst (λ (x : Lit). Sorted c.args.signature.now (scope_sorts c.args.scope.now) (form_of_lit x)) (sym c.in_ok-other.ensures) (negated_sorted c.args.signature.now (scope_sorts c.args.scope.now) c.args.pivot.now c.requires.pivot)
