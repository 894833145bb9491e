use Rattle.proof_log.proofs.Ranges.{if_written, list_in_range, more_in_range, form_range-Atom, form_range-Eq, form_range-Not, form_range-And, form_range-Or, form_range-Imp, form_range-Iff, form_range-All, form_range-Ex}
use Rattle.proof_log.proofs.Pieces.{two_pieces, three_pieces, list_written, more_written}
use Rattle.proof_log.specs.LogText.{form_text, form_words}
use Rattle.proof_log.proofs.LogEquations.{form_text-Atom, form_text-Eq, form_text-Not, form_text-And, form_text-Or, form_text-Imp, form_text-Iff, form_text-All, form_text-Ex}
use Rattle.proof_log.proofs.forms.+put_form.Goals as goal

pub put_form-returns-in_ok-put_small-in-Atom-clause-text : goal.put_form-returns-in_ok-put_small-in-Atom-clause-text
put_form-returns-in_ok-put_small-in-Atom-clause-text t c =
    rw (c.in-Atom.is, form_text-Atom) (three_pieces c.put_terms.result _ _ _ _ _ _ _ c.in_ok-put_word-in-Atom.ensures c.in_ok-put_small-in-Atom.ensures.text (rw c.as_slice.ensures at c.put_terms.ensures.text))

pub put_form-returns-in_ok-put_term-in-Eq-clause-text : goal.put_form-returns-in_ok-put_term-in-Eq-clause-text
put_form-returns-in_ok-put_term-in-Eq-clause-text t c =
    rw (c.in-Eq.is, form_text-Eq) (three_pieces c.put_term-in-Eq.result _ _ _ _ _ _ _ c.in_ok-put_word-in-Eq.ensures c.in_ok-put_term-in-Eq.ensures.text c.put_term-in-Eq.ensures.text)

pub put_form-returns-in_ok-put_word-in-Not-clause-text : goal.put_form-returns-in_ok-put_word-in-Not-clause-text
put_form-returns-in_ok-put_word-in-Not-clause-text t c =
    rw (c.in-Not.is, form_text-Not) (two_pieces c.put_form.result _ _ _ _ _ c.in_ok-put_word-in-Not.ensures (rw c.get.ensures at c.put_form.ensures.text))

pub put_form-returns-in_ok-put_word-in-And-clause-text : goal.put_form-returns-in_ok-put_word-in-And-clause-text
put_form-returns-in_ok-put_word-in-And-clause-text t c =
    rw (c.in-And.is, form_text-And) (two_pieces c.put_forms.result _ _ _ _ _ c.in_ok-put_word-in-And.ensures (rw c.as_slice-in-And.ensures at c.put_forms.ensures.text))

pub put_form-returns-in_ok-put_word-in-Or-clause-text : goal.put_form-returns-in_ok-put_word-in-Or-clause-text
put_form-returns-in_ok-put_word-in-Or-clause-text t c =
    rw (c.in-Or.is, form_text-Or) (two_pieces c.put_forms-in-Or.result _ _ _ _ _ c.in_ok-put_word-in-Or.ensures (rw c.as_slice-in-Or.ensures at c.put_forms-in-Or.ensures.text))

pub put_form-returns-in_ok-put_form-in-Imp-clause-text : goal.put_form-returns-in_ok-put_form-in-Imp-clause-text
put_form-returns-in_ok-put_form-in-Imp-clause-text t c =
    rw (c.in-Imp.is, form_text-Imp) (three_pieces c.put_form-in-Imp-2.result _ _ _ _ _ _ _ c.in_ok-put_word-in-Imp.ensures (rw c.get-in-Imp.ensures at c.in_ok-put_form-in-Imp.ensures.text) (rw c.get-in-Imp-2.ensures at c.put_form-in-Imp-2.ensures.text))

pub put_form-returns-in_ok-put_form-in-Iff-clause-text : goal.put_form-returns-in_ok-put_form-in-Iff-clause-text
put_form-returns-in_ok-put_form-in-Iff-clause-text t c =
    rw (c.in-Iff.is, form_text-Iff) (three_pieces c.put_form-in-Iff-2.result _ _ _ _ _ _ _ c.in_ok-put_word-in-Iff.ensures (rw c.get-in-Iff.ensures at c.in_ok-put_form-in-Iff.ensures.text) (rw c.get-in-Iff-2.ensures at c.put_form-in-Iff-2.ensures.text))

pub put_form-returns-in_ok-put_small-in-All-clause-text : goal.put_form-returns-in_ok-put_small-in-All-clause-text
put_form-returns-in_ok-put_small-in-All-clause-text t c =
    rw (c.in-All.is, form_text-All) (three_pieces c.put_form-in-All.result _ _ _ _ _ _ _ c.in_ok-put_word-in-All.ensures c.in_ok-put_small-in-All.ensures.text (rw c.get-in-All.ensures at c.put_form-in-All.ensures.text))

pub put_form-returns-in_ok-put_small-in-Ex-clause-text : goal.put_form-returns-in_ok-put_small-in-Ex-clause-text
put_form-returns-in_ok-put_small-in-Ex-clause-text t c =
    rw (c.in-Ex.is, form_text-Ex) (three_pieces c.put_form-in-Ex.result _ _ _ _ _ _ _ c.in_ok-put_word-in-Ex.ensures c.in_ok-put_small-in-Ex.ensures.text (rw c.get-in-Ex.ensures at c.put_form-in-Ex.ensures.text))

pub put_forms-returns-clause-text : goal.put_forms-returns-clause-text
put_forms-returns-clause-text t c = list_written form_text c.args.forms.now c.loop-form.form-index _ _ _ c.loop-form-test.false c.in_ok-put_number.ensures.text c.loop-form.invariant.written

pub put_form-returns-in_ok-put_small-in-Atom-clause-in_range : goal.put_form-returns-in_ok-put_small-in-Atom-clause-in_range
put_form-returns-in_ok-put_small-in-Atom-clause-in_range t c =
    rw c.in-Atom.is (if_written c.put_terms.result (λ h. form_range-Atom _ _ c.in_ok-put_small-in-Atom.ensures.small h) (rw c.as_slice.ensures at c.put_terms.ensures.in_range))

pub put_form-returns-in_ok-put_term-in-Eq-clause-in_range : goal.put_form-returns-in_ok-put_term-in-Eq-clause-in_range
put_form-returns-in_ok-put_term-in-Eq-clause-in_range t c =
    rw c.in-Eq.is (if_written c.put_term-in-Eq.result (λ h. form_range-Eq _ _ c.in_ok-put_term-in-Eq.ensures.in_range h) c.put_term-in-Eq.ensures.in_range)

pub put_form-returns-in_ok-put_word-in-Not-clause-in_range : goal.put_form-returns-in_ok-put_word-in-Not-clause-in_range
put_form-returns-in_ok-put_word-in-Not-clause-in_range t c =
    rw c.in-Not.is (if_written c.put_form.result (λ h. form_range-Not _ h) (rw c.get.ensures at c.put_form.ensures.in_range))

pub put_form-returns-in_ok-put_word-in-And-clause-in_range : goal.put_form-returns-in_ok-put_word-in-And-clause-in_range
put_form-returns-in_ok-put_word-in-And-clause-in_range t c =
    rw c.in-And.is (if_written c.put_forms.result (λ h. form_range-And _ h) (rw c.as_slice-in-And.ensures at c.put_forms.ensures.in_range))

pub put_form-returns-in_ok-put_word-in-Or-clause-in_range : goal.put_form-returns-in_ok-put_word-in-Or-clause-in_range
put_form-returns-in_ok-put_word-in-Or-clause-in_range t c =
    rw c.in-Or.is (if_written c.put_forms-in-Or.result (λ h. form_range-Or _ h) (rw c.as_slice-in-Or.ensures at c.put_forms-in-Or.ensures.in_range))

pub put_form-returns-in_ok-put_form-in-Imp-clause-in_range : goal.put_form-returns-in_ok-put_form-in-Imp-clause-in_range
put_form-returns-in_ok-put_form-in-Imp-clause-in_range t c =
    rw c.in-Imp.is (if_written c.put_form-in-Imp-2.result (λ h. form_range-Imp _ _ (rw c.get-in-Imp.ensures at c.in_ok-put_form-in-Imp.ensures.in_range) h) (rw c.get-in-Imp-2.ensures at c.put_form-in-Imp-2.ensures.in_range))

pub put_form-returns-in_ok-put_form-in-Iff-clause-in_range : goal.put_form-returns-in_ok-put_form-in-Iff-clause-in_range
put_form-returns-in_ok-put_form-in-Iff-clause-in_range t c =
    rw c.in-Iff.is (if_written c.put_form-in-Iff-2.result (λ h. form_range-Iff _ _ (rw c.get-in-Iff.ensures at c.in_ok-put_form-in-Iff.ensures.in_range) h) (rw c.get-in-Iff-2.ensures at c.put_form-in-Iff-2.ensures.in_range))

pub put_form-returns-in_ok-put_small-in-All-clause-in_range : goal.put_form-returns-in_ok-put_small-in-All-clause-in_range
put_form-returns-in_ok-put_small-in-All-clause-in_range t c =
    rw c.in-All.is (if_written c.put_form-in-All.result (λ h. form_range-All _ _ c.in_ok-put_small-in-All.ensures.small h) (rw c.get-in-All.ensures at c.put_form-in-All.ensures.in_range))

pub put_form-returns-in_ok-put_small-in-Ex-clause-in_range : goal.put_form-returns-in_ok-put_small-in-Ex-clause-in_range
put_form-returns-in_ok-put_small-in-Ex-clause-in_range t c =
    rw c.in-Ex.is (if_written c.put_form-in-Ex.result (λ h. form_range-Ex _ _ c.in_ok-put_small-in-Ex.ensures.small h) (rw c.get-in-Ex.ensures at c.put_form-in-Ex.ensures.in_range))

pub put_forms-returns-clause-in_range : goal.put_forms-returns-clause-in_range
put_forms-returns-clause-in_range t c = list_in_range form_words c.args.forms.now c.loop-form.form-index c.loop-form-test.false c.in_ok-put_number.ensures.large c.loop-form.invariant.in_range

pub put_forms-loop-form-preserved : goal.put_forms-loop-form-preserved
put_forms-loop-form-preserved t c = record {
  written = more_written form_text c.args.forms.now c.loop-form.form-index c.form-item.result _ _ _ c.loop-form-test.true c.form-item.is c.loop-form.invariant.written c.in_ok-put_form.ensures.text;
  in_range = more_in_range form_words c.args.forms.now c.loop-form.form-index c.form-item.result c.loop-form-test.true c.form-item.is c.loop-form.invariant.in_range c.in_ok-put_form.ensures.in_range;
}
