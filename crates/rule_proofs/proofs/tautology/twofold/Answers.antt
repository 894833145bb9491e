use Rattle.std.proofs.Common.{sym, subst, ap, ◌∙◌, arith, List}
use Rattle.fof_terms.specs.Scope.{scope_sorts}
use Rattle.fof_terms.specs.Sorts.{Sorted}
use Rattle.derive_kit.proofs.Built.{ok_map}
use Rattle.clause_form.specs.declared.clause.Lit.{Lit}
use Rattle.clause_form.specs.ClauseView.{form_of_lit}
use Rattle.clause_proofs.specs.Refuting.{body}
use Rattle.rule_proofs.proofs.WholeLines.{none_next, no_trivial}
use Rattle.std.proofs.lemmas.Option.{slice_get_within}
use Rattle.rule_proofs.proofs.tautology.twofold.Goals as goal

pub loop-i-preserved : goal.loop-i-preserved
loop-i-preserved c = none_next c.args.lits.now c.loop-i.i c.index-lits-i.result c.is_opposed.result c.loop-i-test.true c.index-lits-i.is c.if-is_opposed.false c.is_opposed.ensures c.loop-i.invariant

pub returns-clause-none : goal.returns-clause-none
returns-clause-none c = no_trivial c.args.lits.now (λ k x at. c.loop-i.invariant k (omega (arith, slice_get_within c.args.lits.now k x at, c.loop-i-test.false)) x at)
