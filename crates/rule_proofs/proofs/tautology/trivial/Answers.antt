use Rattle.std.proofs.Common.{sym, subst, ap, arith}
use Rattle.std.specs.Prelude.{length}
use Rattle.fof_terms.specs.Scope.{scope_sorts}
use Rattle.fof_terms.specs.declared.sorting.Scope.{Outside}
use Rattle.derive_kit.proofs.Built.{ok_map}
use Rattle.clause_form.specs.declared.clause.Clause.{Clause}
use Rattle.clause_form.specs.Covers.{IsTrivial}
use Rattle.clause_proofs.proofs.LineGoals.{Exist, few_sorts, scope_is, opened_clause}
use Rattle.rule_proofs.proofs.WholeLines.{goal_in, shown_in}
use Rattle.rule_proofs.proofs.tautology.trivial.Goals as goal

pub known_clause-requires : goal.known_clause-requires
known_clause-requires c = (c.requires.trivial.0, c.requires.trivial.1)

pub few_variables_of-requires : goal.few_variables_of-requires
few_variables_of-requires c = omega (arith, ap length c.as_slice.ensures, few_sorts c.args.signature.now c.args.line.now c.in_ok-opened.opened.clause c.in_ok-opened.opened.is_or c.requires.ready c.in_ok-opened.ensures.1)

pub true_by_form-requires-clause-trivial : goal.true_by_form-requires-clause-trivial
true_by_form-requires-clause-trivial c = subst (λ (x : Clause). IsTrivial x.lits) (sym (opened_clause c.args.line.now c.in_ok-opened.opened c.requires.trivial.0 c.in_ok-opened.ensures c.requires.trivial.1)) c.requires.trivial.2

pub true_by_form-requires-clause-goal : goal.true_by_form-requires-clause-goal
true_by_form-requires-clause-goal c =
    goal_in c.args.signature.now c.args.line.now c.in_ok-opened.opened c.as_slice.result.now c.in_ok-reach.reach.more c.requires.ready c.in_ok-opened.ensures c.as_slice.ensures c.in_ok-reach.ensures.few (subst (Exist c.args.signature.now) (sym c.in_ok-reach.ensures.more) tt)
    (scope_sorts (Outside c.as_slice-2.result)) (scope_is c.as_slice-2.result c.in_ok-reach.reach.sorts c.as_slice.result.now c.in_ok-reach.reach.more c.as_slice-2.ensures c.in_ok-reach.ensures.sorts)

pub returns : goal.returns
returns c =
    ok_map c.closed.result
    (λ made e formulas. rw e (rw c.as_slice-3.ensures
    (shown_in c.args.signature.now c.args.line.now c.in_ok-opened.opened c.as_slice.result.now c.in_ok-reach.reach.more c.requires.ready c.in_ok-opened.ensures c.as_slice.ensures c.in_ok-reach.ensures.few (subst (Exist c.args.signature.now) (sym c.in_ok-reach.ensures.more) tt)
    (scope_sorts (Outside c.as_slice-2.result)) formulas c.in_ok-part.part (scope_is c.as_slice-2.result c.in_ok-reach.reach.sorts c.as_slice.result.now c.in_ok-reach.reach.more c.as_slice-2.ensures c.in_ok-reach.ensures.sorts) (c.in_ok-part.ensures formulas))))
    c.closed.ensures
