use Rattle.std.proofs.Common.{rules, arith, ap, sym, refl, ◌∙◌, true, false}
use Rattle.std.proofs.lemmas.List.{take_all}
use Rattle.fof_terms.specs.declared.form.Form.TheViews.{the_lemmas}
use Rattle.fof_terms.specs.declared.form.Form.{Not, And, Or, Imp, Iff, All, Ex}
use Rattle.clause_form.specs.Norm.{quantified}
use Rattle.clause_form.proofs.NormFacts.{norm_of-Atom, norm_of-Eq, norm_of-Not}
use Rattle.derive_kit.proofs.Built.{ok_map}
use Rattle.norm_proofs.specs.code.Links.{kind_of}
use Rattle.norm_proofs.proofs.NormsFacts.{norm_of_quantifier, small_member, few_members}
use Rattle.norm_proofs.proofs.PlacedFacts.{placed_not, placed_body, placed_member, body_reach}
use Rattle.norm_proofs.proofs.Places.{at_index}
use Rattle.norm_proofs.proofs.RecursionFacts.{norm_done, normal_norm, normal_done, literal_done, not_done, node_done, quantifier_done, imp_done, iff_done, negation_done, bound_done, of_imp, of_iff, small_not, body_small, quantifier_placed, norm_lifts, norm_depth_fits, norms_more, steps_more}
use Rattle.norm_proofs.proofs.RecursionFacts.{left_small, right_small, left_placed, right_placed, left_of_iff_small, right_of_iff_small, left_of_iff_placed, right_of_iff_placed, iff_sides_small}
use Rattle.norm_proofs.proofs.norms.+between.Goals as goal

pub between-returns-then-is_normal-clause-norm : goal.between-returns-then-is_normal-clause-norm
between-returns-then-is_normal-clause-norm t c =
    ok_map c.unchanged.result (λ made e. normal_norm c.args.positive c.args.forth c.args.form.now made.part made.norm c.in_ok-copy.field-0 c.if-positive.true (c.is_normal.ensures c.if-is_normal.true) e c.in_ok-copy.ensures) c.unchanged.ensures.norm

pub between-returns-then-is_normal-clause-part : goal.between-returns-then-is_normal-clause-part
between-returns-then-is_normal-clause-part t c =
    ok_map c.unchanged.result (λ made e. normal_done c.args.positive c.args.forth c.args.form.now made.part c.in_ok-copy.field-0 c.if-positive.true (c.is_normal.ensures c.if-is_normal.true) e c.in_ok-copy.ensures) c.unchanged.ensures.part

pub between-returns-in-Atom-clause-norm : goal.between-returns-in-Atom-clause-norm
between-returns-in-Atom-clause-norm t c =
    ok_map c.literal.result (λ made e. e ∙ sym (rw c.in-Atom.is (norm_of-Atom c.args.positive c.in-Atom.field-0 c.in-Atom.field-1))) c.literal.ensures.norm

pub between-returns-in-Atom-clause-part : goal.between-returns-in-Atom-clause-part
between-returns-in-Atom-clause-part t c =
    ok_map c.literal.result (λ made l. literal_done c.args.positive c.args.forth c.args.form.now made.part (rw c.in-Atom.is (norm_of-Atom c.args.positive c.in-Atom.field-0 c.in-Atom.field-1)) (l c.args.forth _)) c.literal.ensures.part

pub between-returns-in-Eq-clause-norm : goal.between-returns-in-Eq-clause-norm
between-returns-in-Eq-clause-norm t c =
    ok_map c.literal-in-Eq.result (λ made e. e ∙ sym (rw c.in-Eq.is (norm_of-Eq c.args.positive c.in-Eq.field-0 c.in-Eq.field-1))) c.literal-in-Eq.ensures.norm

pub between-returns-in-Eq-clause-part : goal.between-returns-in-Eq-clause-part
between-returns-in-Eq-clause-part t c =
    ok_map c.literal-in-Eq.result (λ made l. literal_done c.args.positive c.args.forth c.args.form.now made.part (rw c.in-Eq.is (norm_of-Eq c.args.positive c.in-Eq.field-0 c.in-Eq.field-1)) (l c.args.forth _)) c.literal-in-Eq.ensures.part

pub between-returns-in-Not-clause-norm : goal.between-returns-in-Not-clause-norm
between-returns-in-Not-clause-norm t c =
    ok_map c.of_negation.result (λ made e. norm_done c.args.positive c.args.forth c.args.form.now made.part made.norm (Not c.get.result.now) (rw c.get.ensures c.in-Not.is) e) c.of_negation.ensures.norm

pub between-returns-in-Not-clause-part : goal.between-returns-in-Not-clause-part
between-returns-in-Not-clause-part t c =
    ok_map c.of_negation.result (λ made l. not_done c.args.positive c.args.forth c.args.form.now made.part c.in-Not.body c.get.result.now c.in-Not.is c.get.ensures l) c.of_negation.ensures.part

pub between-returns-in-And-clause-norm : goal.between-returns-in-And-clause-norm
between-returns-in-And-clause-norm t c =
    ok_map c.of_members.result (λ made e. norm_done c.args.positive c.args.forth c.args.form.now made.part made.norm (And c.as_slice.result.now) (rw c.as_slice.ensures c.in-And.is) e) c.of_members.ensures.norm

pub between-returns-in-And-clause-part : goal.between-returns-in-And-clause-part
between-returns-in-And-clause-part t c =
    ok_map c.of_members.result (λ made l. node_done c.args.positive c.args.forth c.args.form.now made.part true c.in-And.members c.as_slice.result.now c.in-And.is c.as_slice.ensures l) c.of_members.ensures.part

pub between-returns-in-Or-clause-norm : goal.between-returns-in-Or-clause-norm
between-returns-in-Or-clause-norm t c =
    ok_map c.of_members-in-Or.result (λ made e. norm_done c.args.positive c.args.forth c.args.form.now made.part made.norm (Or c.as_slice-in-Or.result.now) (rw c.as_slice-in-Or.ensures c.in-Or.is) e) c.of_members-in-Or.ensures.norm

pub between-returns-in-Or-clause-part : goal.between-returns-in-Or-clause-part
between-returns-in-Or-clause-part t c =
    ok_map c.of_members-in-Or.result (λ made l. node_done c.args.positive c.args.forth c.args.form.now made.part false c.in-Or.members c.as_slice-in-Or.result.now c.in-Or.is c.as_slice-in-Or.ensures l) c.of_members-in-Or.ensures.part

pub between-returns-in-All-clause-norm : goal.between-returns-in-All-clause-norm
between-returns-in-All-clause-norm t c =
    ok_map c.of_quantifier.result (λ made e. norm_done c.args.positive c.args.forth c.args.form.now made.part made.norm (All c.in-All.sort c.get-in-All.result.now) (rw c.get-in-All.ensures c.in-All.is) e) c.of_quantifier.ensures.norm

pub between-returns-in-All-clause-part : goal.between-returns-in-All-clause-part
between-returns-in-All-clause-part t c =
    ok_map c.of_quantifier.result (λ made l. quantifier_done c.args.positive c.args.forth c.args.form.now made.part true c.in-All.sort c.in-All.body c.get-in-All.result.now c.in-All.is c.get-in-All.ensures l) c.of_quantifier.ensures.part

pub between-returns-in-Ex-clause-norm : goal.between-returns-in-Ex-clause-norm
between-returns-in-Ex-clause-norm t c =
    ok_map c.of_quantifier-in-Ex.result (λ made e. norm_done c.args.positive c.args.forth c.args.form.now made.part made.norm (Ex c.in-Ex.sort c.get-in-Ex.result.now) (rw c.get-in-Ex.ensures c.in-Ex.is) e) c.of_quantifier-in-Ex.ensures.norm

pub between-returns-in-Ex-clause-part : goal.between-returns-in-Ex-clause-part
between-returns-in-Ex-clause-part t c =
    ok_map c.of_quantifier-in-Ex.result (λ made l. quantifier_done c.args.positive c.args.forth c.args.form.now made.part false c.in-Ex.sort c.in-Ex.body c.get-in-Ex.result.now c.in-Ex.is c.get-in-Ex.ensures l) c.of_quantifier-in-Ex.ensures.part

pub of_negation-returns-clause-norm : goal.of_negation-returns-clause-norm
of_negation-returns-clause-norm t c =
    c.in_ok-norm.ensures.norm ∙ sym (norm_of-Not c.args.positive c.args.body.now)

pub of_negation-returns-clause-part : goal.of_negation-returns-clause-part
of_negation-returns-clause-part t c =
    negation_done c.args.positive c.args.forth c.in_ok-part.part c.in_ok-norm.field-0.part c.args.body.now c.in_ok-norm.ensures.part (rw (c.get.ensures, c.in_ok-norm.ensures.norm) at c.in_ok-part.ensures)

pub of_members-between-requires : goal.of_members-between-requires
of_members-between-requires t c =
    let at = at_index c.args.forms.now c.loop-number.number c.index-forms-number.result c.loop-number-test.true c.index-forms-number.is in
    (search (rules, the_lemmas), (omega (arith, small_member c.args.conjunction c.args.forms.now c.loop-number.number c.index-forms-number.result at, c.requires.size), placed_member c.args.conjunction c.args.forms.now c.loop-number.number c.index-forms-number.result at c.requires.placed))

pub of_members-loop-number-preserved : goal.of_members-loop-number-preserved
of_members-loop-number-preserved t c =
    let at = at_index c.args.forms.now c.loop-number.number c.index-forms-number.result c.loop-number-test.true c.index-forms-number.is in (
      norms_more c.args.positive c.args.forms.now c.loop-number.norms c.push.new.self c.loop-number.number c.index-forms-number.result c.in_ok-norm.field-0.norm c.into_inner.result at c.in_ok-push.ensures.ok c.into_inner.ensures c.in_ok-norm.ensures.norm c.loop-number.invariant.0,
      steps_more c.args.positive c.args.forth c.args.forms.now c.loop-number.parts c.push-in-loop-number.new.self c.loop-number.number c.index-forms-number.result c.in_ok-norm.field-0.part c.into_inner-in-loop-number.result c.loop-number-test.true c.index-forms-number.is c.in_ok-push-2.ensures.ok c.into_inner-in-loop-number.ensures c.in_ok-norm.ensures.part c.loop-number.invariant.1,
    )

pub of_members-arms_of-requires-clause-parts : goal.of_members-arms_of-requires-clause-parts
of_members-arms_of-requires-clause-parts t c =
    rw (take_all c.loop-number.number c.args.forms.now c.loop-number-test.false) at c.loop-number.invariant.1

pub of_members-arms_of-requires-clause-few : goal.of_members-arms_of-requires-clause-few
of_members-arms_of-requires-clause-few t c = omega (arith, few_members c.args.conjunction c.args.forms.now, c.requires.size)

pub of_members-returns-clause-part : goal.of_members-returns-clause-part
of_members-returns-clause-part t c =
    ok_map c.node_step.result (λ made f. f _ c.in_ok-arms.ensures) c.node_step.ensures.part

pub between-of_negation-requires : goal.between-of_negation-requires
between-of_negation-requires t c =
    (search (rules, the_lemmas), (small_not c.args.form.now c.in-Not.body c.get.result.now c.in-Not.is c.get.ensures c.requires.size, placed_not c.args.form.now c.in-Not.body c.get.result.now c.in-Not.is c.get.ensures c.requires.placed))

pub between-between-requires : goal.between-between-requires
between-between-requires t c =
    (search (rules, the_lemmas), (left_small c.args.form.now c.in-Imp.left c.in-Imp.right c.get-left.result.now c.in-Imp.is c.get-left.ensures c.requires.size, left_placed c.args.form.now c.in-Imp.left c.in-Imp.right c.get-left.result.now c.in-Imp.is c.get-left.ensures c.requires.placed))

pub between-between-requires-in-Imp : goal.between-between-requires-in-Imp
between-between-requires-in-Imp t c =
    (search (rules, the_lemmas), (right_small c.args.form.now c.in-Imp.left c.in-Imp.right c.get-right.result.now c.in-Imp.is c.get-right.ensures c.requires.size, right_placed c.args.form.now c.in-Imp.left c.in-Imp.right c.get-right.result.now c.in-Imp.is c.get-right.ensures c.requires.placed))

pub between-between-requires-in-Iff : goal.between-between-requires-in-Iff
between-between-requires-in-Iff t c =
    (search (rules, the_lemmas), (left_of_iff_small c.args.form.now c.in-Iff.left c.in-Iff.right c.get-left-in-Iff.result.now c.in-Iff.is c.get-left-in-Iff.ensures c.requires.size, left_of_iff_placed c.args.form.now c.in-Iff.left c.in-Iff.right c.get-left-in-Iff.result.now c.in-Iff.is c.get-left-in-Iff.ensures c.requires.placed))

pub between-between-requires-in-Iff-2 : goal.between-between-requires-in-Iff-2
between-between-requires-in-Iff-2 t c =
    (search (rules, the_lemmas), (right_of_iff_small c.args.form.now c.in-Iff.left c.in-Iff.right c.get-right-in-Iff.result.now c.in-Iff.is c.get-right-in-Iff.ensures c.requires.size, right_of_iff_placed c.args.form.now c.in-Iff.left c.in-Iff.right c.get-right-in-Iff.result.now c.in-Iff.is c.get-right-in-Iff.ensures c.requires.placed))

pub between-between-requires-in-Iff-3 : goal.between-between-requires-in-Iff-3
between-between-requires-in-Iff-3 t c =
    (search (rules, the_lemmas), (left_of_iff_small c.args.form.now c.in-Iff.left c.in-Iff.right c.get-left-in-Iff.result.now c.in-Iff.is c.get-left-in-Iff.ensures c.requires.size, left_of_iff_placed c.args.form.now c.in-Iff.left c.in-Iff.right c.get-left-in-Iff.result.now c.in-Iff.is c.get-left-in-Iff.ensures c.requires.placed))

pub between-between-requires-in-Iff-4 : goal.between-between-requires-in-Iff-4
between-between-requires-in-Iff-4 t c =
    (search (rules, the_lemmas), (right_of_iff_small c.args.form.now c.in-Iff.left c.in-Iff.right c.get-right-in-Iff.result.now c.in-Iff.is c.get-right-in-Iff.ensures c.requires.size, right_of_iff_placed c.args.form.now c.in-Iff.left c.in-Iff.right c.get-right-in-Iff.result.now c.in-Iff.is c.get-right-in-Iff.ensures c.requires.placed))

pub between-sides_step-requires-clause-size : goal.between-sides_step-requires-clause-size
between-sides_step-requires-clause-size t c =
    iff_sides_small c.args.form.now c.in-Iff.left c.in-Iff.right c.get-left-in-Iff.result.now c.get-right-in-Iff.result.now c.in-Iff.is c.get-left-in-Iff.ensures c.get-right-in-Iff.ensures c.requires.size

pub between-back_step-requires-clause-size : goal.between-back_step-requires-clause-size
between-back_step-requires-clause-size t c =
    iff_sides_small c.args.form.now c.in-Iff.left c.in-Iff.right c.get-left-in-Iff.result.now c.get-right-in-Iff.result.now c.in-Iff.is c.get-left-in-Iff.ensures c.get-right-in-Iff.ensures c.requires.size

pub between-of_quantifier-requires : goal.between-of_quantifier-requires
between-of_quantifier-requires t c =
    (search (rules, the_lemmas), (body_small true c.in-All.sort c.args.form.now c.in-All.body c.in-All.is c.get-in-All.result.now c.get-in-All.ensures c.requires.size, quantifier_placed true c.in-All.sort c.args.form.now c.in-All.body c.in-All.is c.get-in-All.result.now c.get-in-All.ensures c.requires.placed))

pub between-of_quantifier-requires-in-Ex : goal.between-of_quantifier-requires-in-Ex
between-of_quantifier-requires-in-Ex t c =
    (search (rules, the_lemmas), (body_small false c.in-Ex.sort c.args.form.now c.in-Ex.body c.in-Ex.is c.get-in-Ex.result.now c.get-in-Ex.ensures c.requires.size, quantifier_placed false c.in-Ex.sort c.args.form.now c.in-Ex.body c.in-Ex.is c.get-in-Ex.result.now c.get-in-Ex.ensures c.requires.placed))

pub between-returns-in_ok-second-in-Imp-clause-norm : goal.between-returns-in_ok-second-in-Imp-clause-norm
between-returns-in_ok-second-in-Imp-clause-norm t c =
    let is = of_imp c.args.form.now c.in-Imp.left c.in-Imp.right c.get-left.result.now c.get-right.result.now c.in-Imp.is c.get-left.ensures c.get-right.ensures in
    ok_map c.imp_step.result (λ made e. norm_done c.args.positive c.args.forth c.args.form.now made.part made.norm (Imp c.get-left.result.now c.get-right.result.now) is e) c.imp_step.ensures.norm

pub between-returns-in_ok-second-in-Imp-clause-part : goal.between-returns-in_ok-second-in-Imp-clause-part
between-returns-in_ok-second-in-Imp-clause-part t c =
    let is = of_imp c.args.form.now c.in-Imp.left c.in-Imp.right c.get-left.result.now c.get-right.result.now c.in-Imp.is c.get-left.ensures c.get-right.ensures in
    ok_map c.imp_step.result (λ made f. imp_done c.args.positive c.args.forth c.args.form.now made.part c.in_ok-first-in-Imp.first.part c.in_ok-second-in-Imp.second.part c.get-left.result.now c.get-right.result.now is c.in_ok-first-in-Imp.ensures.part c.in_ok-second-in-Imp.ensures.part f) c.imp_step.ensures.part

pub between-returns-in_ok-other-in-Iff-clause-norm : goal.between-returns-in_ok-other-in-Iff-clause-norm
between-returns-in_ok-other-in-Iff-clause-norm t c =
    let is = of_iff c.args.form.now c.in-Iff.left c.in-Iff.right c.get-left-in-Iff.result.now c.get-right-in-Iff.result.now c.in-Iff.is c.get-left-in-Iff.ensures c.get-right-in-Iff.ensures in
    ok_map c.iff_step.result (λ made e. norm_done c.args.positive c.args.forth c.args.form.now made.part made.norm (Iff c.get-left-in-Iff.result.now c.get-right-in-Iff.result.now) is e) c.iff_step.ensures.norm

pub between-returns-in_ok-other-in-Iff-clause-part : goal.between-returns-in_ok-other-in-Iff-clause-part
between-returns-in_ok-other-in-Iff-clause-part t c =
    let is = of_iff c.args.form.now c.in-Iff.left c.in-Iff.right c.get-left-in-Iff.result.now c.get-right-in-Iff.result.now c.in-Iff.is c.get-left-in-Iff.ensures c.get-right-in-Iff.ensures in
    ok_map c.iff_step.result (λ made f. iff_done c.args.positive c.args.forth c.args.form.now made.part c.in_ok-first-in-Iff.first.part c.in_ok-second-in-Iff.second.part c.in_ok-third-in-Iff.third.part c.in_ok-fourth-in-Iff.fourth.part c.in_ok-one-in-Iff.one.part c.in_ok-other-in-Iff.other.part c.get-left-in-Iff.result.now c.get-right-in-Iff.result.now is
    c.in_ok-first-in-Iff.ensures.part c.in_ok-second-in-Iff.ensures.part c.in_ok-one-in-Iff.ensures.part c.in_ok-third-in-Iff.ensures.part c.in_ok-fourth-in-Iff.ensures.part c.in_ok-other-in-Iff.ensures.part f) c.iff_step.ensures.part

pub of_quantifier-between-requires : goal.of_quantifier-between-requires
of_quantifier-between-requires t c =
    (search (rules, the_lemmas), (c.requires.size, placed_body c.args.conjunction c.args.sort c.args.body.now c.requires.placed))

pub of_quantifier-quantified_step-requires-clause-body : goal.of_quantifier-quantified_step-requires-clause-body
of_quantifier-quantified_step-requires-clause-body t c = body_reach c.args.conjunction c.args.sort c.args.body.now c.requires.placed

pub of_quantifier-quantified_step-requires-clause-norm : goal.of_quantifier-quantified_step-requires-clause-norm
of_quantifier-quantified_step-requires-clause-norm t c =
    norm_lifts c.args.conjunction c.args.positive c.args.forth c.in_ok-norm.field-0.part c.args.sort c.args.body.now c.in_ok-norm.field-0.norm c.in_ok-norm.field-0.norm c.in_ok-norm.ensures.norm refl c.in_ok-norm.ensures.part c.requires.placed

pub of_quantifier-quantified_step-requires-clause-depth : goal.of_quantifier-quantified_step-requires-clause-depth
of_quantifier-quantified_step-requires-clause-depth t c =
    norm_depth_fits c.args.positive c.args.body.now c.in_ok-norm.field-0.norm c.in_ok-norm.field-0.norm c.in_ok-norm.ensures.norm refl c.requires.size

pub of_quantifier-returns-clause-norm : goal.of_quantifier-returns-clause-norm
of_quantifier-returns-clause-norm t c =
    ok_map c.quantified_step.result (λ made e. e ∙ ap (quantified (kind_of c.args.conjunction c.args.positive) c.args.sort) c.in_ok-norm.ensures.norm ∙ sym (norm_of_quantifier c.args.conjunction c.args.positive c.args.sort c.args.body.now)) c.quantified_step.ensures.norm

pub of_quantifier-returns-clause-part : goal.of_quantifier-returns-clause-part
of_quantifier-returns-clause-part t c =
    ok_map c.quantified_step.result (λ made f. bound_done c.args.conjunction c.args.positive c.args.forth made.part c.in_ok-norm.field-0.part c.args.sort c.args.body.now c.in_ok-norm.field-0.norm c.in_ok-norm.field-0.norm c.in_ok-norm.ensures.norm refl c.in_ok-norm.ensures.part f) c.quantified_step.ensures.part
