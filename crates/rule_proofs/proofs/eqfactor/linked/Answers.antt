use Rattle.std.proofs.Common.{sym, subst}
use Rattle.fof_terms.specs.Scope.{scope_sorts}
use Rattle.fof_terms.specs.Sorts.{Sorted}
use Rattle.clause_form.specs.declared.clause.Lit.{Lit}
use Rattle.clause_form.specs.ClauseView.{form_of_lit}
use Rattle.clause_form.specs.Covers.{IsCovered}
use Rattle.derive_kit.proofs.Built.{ok_map}
use Rattle.clause_proofs.specs.Refuting.{body}
use Rattle.rule_proofs.proofs.Factors.{linked_refutes, unequal_sorted, as_written}
use Rattle.rule_proofs.proofs.eqfactor.linked.Goals as goal

pub contrary-requires-clause-covered : goal.contrary-requires-clause-covered
contrary-requires-clause-covered c = subst (IsCovered c.args.line.now.clause.lits) (sym c.in_ok-denied.ensures) c.requires.unequal

pub contrary-requires-clause-sorted : goal.contrary-requires-clause-sorted
contrary-requires-clause-sorted c = subst (λ (x : Lit). Sorted c.args.signature.now (scope_sorts c.args.scope.now) (form_of_lit x)) (sym c.in_ok-denied.ensures) (unequal_sorted c.args.signature.now (scope_sorts c.args.scope.now) c.args.side.now c.args.first.now c.args.second.now c.requires.first c.requires.second)

pub contrary-requires-2-clause-sorted : goal.contrary-requires-2-clause-sorted
contrary-requires-2-clause-sorted c = as_written c.args.signature.now (scope_sorts c.args.scope.now) c.args.other.now c.args.factor.second_flipped c.args.side.now c.args.second.now c.requires.other_is c.requires.second

pub returns : goal.returns
returns c =
    ok_map c.cut_under.result
    (λ made build. linked_refutes c.args.signature.now (scope_sorts c.args.scope.now) (body c.args.line.now) c.args.factor.first_flipped c.args.factor.second_flipped c.args.side.now c.args.first.now c.args.second.now c.args.other.now c.in_ok-denied.denied c.in_ok-form.form
    c.in_ok-none.none c.in_ok-same.same c.in_ok-own.own c.in_ok-link.link c.in_ok-whole.whole c.in_ok-rest.rest made c.requires.goal.room c.requires.first c.requires.second c.in_ok-denied.ensures c.requires.other_is c.in_ok-form.ensures
    c.in_ok-none.ensures c.in_ok-same.ensures c.in_ok-own.ensures c.in_ok-link.ensures c.in_ok-whole.ensures c.in_ok-rest.ensures build)
    c.cut_under.ensures
