use Rattle.std.proofs.Common.{sym, subst, ap, ◌∙◌}
use Rattle.fof_terms.specs.Scope.{scope_sorts}
use Rattle.fof_terms.specs.Sorts.{Sorted}
use Rattle.clause_form.specs.declared.clause.Lit.{Lit}
use Rattle.clause_form.specs.ClauseView.{form_of_lit}
use Rattle.clause_form.specs.Covers.{negated}
use Rattle.derive_kit.proofs.Built.{ok_map}
use Rattle.clause_proofs.specs.Refuting.{AllSettled}
use Rattle.clause_proofs.proofs.BodySorts.{place_sorted}
use Rattle.clause_proofs.proofs.CoveredLiterals.{there_at}
use Rattle.rule_proofs.proofs.Resolvents.{left_settled, right_settled}
use Rattle.rule_proofs.proofs.resolution.resolvent.Goals as goal

pub refuted-requires-clause-settled : goal.refuted-requires-clause-settled
refuted-requires-clause-settled c =
    let r = c.requires.resolvent.1 in
    let same = c.in_ok-pivot.ensures ∙ there_at c.args.left.lits c.as_slice.result.now c.args.left_lit r.pivot c.index-as_slice-left_lit.result c.as_slice.ensures r.in_left c.index-as_slice-left_lit.is in
    subst (λ (p : Lit). AllSettled c.args.line.now.clause.lits p c.args.right.lits) (sym same) (right_settled c.args.line.now.clause.lits c.args.left.lits c.args.right.lits c.args.left_lit c.requires.resolvent.0 r)

pub refuted-requires-clause-other : goal.refuted-requires-clause-other
refuted-requires-clause-other c =
    let r = c.requires.resolvent.1 in
    let same = c.in_ok-pivot.ensures ∙ there_at c.args.left.lits c.as_slice.result.now c.args.left_lit r.pivot c.index-as_slice-left_lit.result c.as_slice.ensures r.in_left c.index-as_slice-left_lit.is in
    subst (λ (p : Lit). Sorted c.args.signature.now (scope_sorts c.args.scope.now) (form_of_lit p)) (sym same) (place_sorted c.args.signature.now (scope_sorts c.args.scope.now) c.args.left.lits c.args.left_lit r.pivot c.requires.goal.sorted.scope_fits c.requires.left r.in_left)

pub by_pivot-requires-clause-settled : goal.by_pivot-requires-clause-settled
by_pivot-requires-clause-settled c =
    let r = c.requires.resolvent.1 in
    let same = c.in_ok-pivot.ensures ∙ there_at c.args.left.lits c.as_slice.result.now c.args.left_lit r.pivot c.index-as_slice-left_lit.result c.as_slice.ensures r.in_left c.index-as_slice-left_lit.is in
    subst (λ (p : Lit). AllSettled c.args.line.now.clause.lits (negated p) c.args.left.lits) (sym same) (left_settled c.args.line.now.clause.lits c.args.left.lits c.args.right.lits c.args.left_lit c.requires.resolvent.0 r)

pub by_pivot-requires-clause-pivot : goal.by_pivot-requires-clause-pivot
by_pivot-requires-clause-pivot c =
    let r = c.requires.resolvent.1 in
    let same = c.in_ok-pivot.ensures ∙ there_at c.args.left.lits c.as_slice.result.now c.args.left_lit r.pivot c.index-as_slice-left_lit.result c.as_slice.ensures r.in_left c.index-as_slice-left_lit.is in
    subst (λ (p : Lit). Sorted c.args.signature.now (scope_sorts c.args.scope.now) (form_of_lit p)) (sym same) (place_sorted c.args.signature.now (scope_sorts c.args.scope.now) c.args.left.lits c.args.left_lit r.pivot c.requires.goal.sorted.scope_fits c.requires.left r.in_left)

pub returns : goal.returns
returns c = ok_map c.by_pivot.result (λ made f formulas left right. f formulas left (λ h. c.in_ok-under.ensures formulas h (right _))) c.by_pivot.ensures
