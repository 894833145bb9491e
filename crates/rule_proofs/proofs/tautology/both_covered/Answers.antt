use Rattle.std.proofs.Common.{sym, subst, ap, ◌∙◌, arith, List}
use Rattle.fof_terms.specs.Scope.{scope_sorts}
use Rattle.fof_terms.specs.Sorts.{Sorted}
use Rattle.derive_kit.proofs.Built.{ok_map}
use Rattle.clause_form.specs.declared.clause.Lit.{Lit}
use Rattle.clause_form.specs.ClauseView.{form_of_lit}
use Rattle.clause_proofs.specs.Refuting.{body}
use Rattle.clause_proofs.proofs.BodySorts.{negated_sorted}
use Rattle.rule_proofs.proofs.WholeLines.{both_refute}
use Rattle.rule_proofs.proofs.tautology.both_covered.Goals as goal

pub contrary-requires-2-clause-sorted : goal.contrary-requires-2-clause-sorted
contrary-requires-2-clause-sorted c = subst (λ (x : Lit). Sorted c.args.signature.now (scope_sorts c.args.scope.now) (form_of_lit x)) (sym c.in_ok-other.ensures) (negated_sorted c.args.signature.now (scope_sorts c.args.scope.now) c.args.lit.now c.requires.sorted)
