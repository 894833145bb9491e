use Rattle.std.proofs.Common.{◌==◌, refl, arith}
use Rattle.std.specs.List.{list_any}
use Rattle.fof_terms.specs.Occurs.{occurs_in, occurs_in_term}
use Rattle.fof_terms.proofs.OccursFacts.{occurs_equations}
use Rattle.proof_check.proofs.MarksFacts.{marks_none, marks_same, marks_two, marks_more, marks_whole}
use Rattle.proof_check.proofs.marks.+mark_form.Goals as goal

pub mark_form-returns-in-Atom : goal.mark_form-returns-in-Atom
mark_form-returns-in-Atom t c =
    marks_two (λ k. c.in-Atom.head == k) (λ k. list_any (occurs_in_term k) c.as_slice.result.now) (λ k. occurs_in k c.args.form.now) c.args.marks.now c.mark.new.marks c.mark_terms.new.marks
    (λ k. grind (arith, occurs_equations))
    c.mark.ensures c.mark_terms.ensures

pub mark_form-returns-in-Eq : goal.mark_form-returns-in-Eq
mark_form-returns-in-Eq t c =
    marks_two (λ k. occurs_in_term k c.in-Eq.left) (λ k. occurs_in_term k c.in-Eq.right) (λ k. occurs_in k c.args.form.now) c.args.marks.now c.mark_term.new.marks c.mark_term-in-Eq.new.marks
    (λ k. grind (arith, occurs_equations))
    c.mark_term.ensures c.mark_term-in-Eq.ensures

pub mark_form-returns-in-Imp : goal.mark_form-returns-in-Imp
mark_form-returns-in-Imp t c =
    marks_two (λ k. occurs_in k c.get.result.now) (λ k. occurs_in k c.get-in-Imp.result.now) (λ k. occurs_in k c.args.form.now) c.args.marks.now c.mark_form.new.marks c.mark_form-in-Imp.new.marks
    (λ k. grind (arith, occurs_equations))
    c.mark_form.ensures c.mark_form-in-Imp.ensures

pub mark_form-returns-in-And : goal.mark_form-returns-in-And
mark_form-returns-in-And t c =
    marks_same (λ k. list_any (occurs_in k) c.as_slice-in-And.result.now) (λ k. occurs_in k c.args.form.now) c.args.marks.now c.mark_forms.new.marks (λ k. grind (arith, occurs_equations)) c.mark_forms.ensures

pub mark_form-returns-in-Not : goal.mark_form-returns-in-Not
mark_form-returns-in-Not t c =
    marks_same (λ k. occurs_in k c.get-in-Not.result.now) (λ k. occurs_in k c.args.form.now) c.args.marks.now c.mark_form-in-Not.new.marks (λ k. grind (arith, occurs_equations)) c.mark_form-in-Not.ensures

pub mark_forms-loop-form-init : goal.mark_forms-loop-form-init
mark_forms-loop-form-init t c = marks_none c.args.marks.now c.args.marks.now refl

pub mark_forms-loop-form-preserved : goal.mark_forms-loop-form-preserved
mark_forms-loop-form-preserved t c =
    marks_more occurs_in c.args.forms.now c.loop-form.form-index c.form-item.result c.args.marks.now c.loop-form.marks c.mark_form.new.marks c.loop-form-test.true c.form-item.is c.loop-form.invariant c.mark_form.ensures

pub mark_forms-returns : goal.mark_forms-returns
mark_forms-returns t c = marks_whole occurs_in c.args.forms.now c.loop-form.form-index c.args.marks.now c.loop-form.marks c.loop-form-test.false c.loop-form.invariant
