use Rattle.proof_log.proofs.Ranges.{if_written, always, list_in_range, more_in_range, term_range-Var, term_range-App}
use Rattle.proof_log.proofs.Pieces.{two_pieces, three_pieces, list_written, more_written}
use Rattle.proof_log.specs.code.LogText.{term_text}
use Rattle.proof_log.specs.LogText.{term_words}
use Rattle.proof_log.proofs.LogEquations.{term_text-Var, term_text-App}
use Rattle.proof_log.proofs.forms.+put_term.Goals as goal

pub put_term-returns-in_ok-put_word-in-Var-clause-text : goal.put_term-returns-in_ok-put_word-in-Var-clause-text
put_term-returns-in_ok-put_word-in-Var-clause-text t c =
    rw (c.in-Var.is, term_text-Var) (two_pieces c.put_small.result _ _ _ _ _ c.in_ok-put_word-in-Var.ensures c.put_small.ensures.text)

pub put_term-returns-in_ok-put_small-in-App-clause-text : goal.put_term-returns-in_ok-put_small-in-App-clause-text
put_term-returns-in_ok-put_small-in-App-clause-text t c =
    rw (c.in-App.is, term_text-App) (three_pieces c.put_terms.result _ _ _ _ _ _ _ c.in_ok-put_word-in-App.ensures c.in_ok-put_small-in-App.ensures.text (rw c.as_slice.ensures at c.put_terms.ensures.text))

pub put_terms-returns-clause-text : goal.put_terms-returns-clause-text
put_terms-returns-clause-text t c = list_written term_text c.args.terms.now c.loop-term.term-index _ _ _ c.loop-term-test.false c.in_ok-put_number.ensures.text c.loop-term.invariant.written

pub put_term-returns-in_ok-put_word-in-Var-clause-in_range : goal.put_term-returns-in_ok-put_word-in-Var-clause-in_range
put_term-returns-in_ok-put_word-in-Var-clause-in_range t c =
    rw c.in-Var.is (always c.put_small.result (term_range-Var _ c.put_small.ensures.small))

pub put_term-returns-in_ok-put_small-in-App-clause-in_range : goal.put_term-returns-in_ok-put_small-in-App-clause-in_range
put_term-returns-in_ok-put_small-in-App-clause-in_range t c =
    rw c.in-App.is (if_written c.put_terms.result (λ h. term_range-App _ _ c.in_ok-put_small-in-App.ensures.small h) (rw c.as_slice.ensures at c.put_terms.ensures.in_range))

pub put_terms-returns-clause-in_range : goal.put_terms-returns-clause-in_range
put_terms-returns-clause-in_range t c = list_in_range term_words c.args.terms.now c.loop-term.term-index c.loop-term-test.false c.in_ok-put_number.ensures.large c.loop-term.invariant.in_range

pub put_terms-loop-term-preserved : goal.put_terms-loop-term-preserved
put_terms-loop-term-preserved t c = record {
  written = more_written term_text c.args.terms.now c.loop-term.term-index c.term-item.result _ _ _ c.loop-term-test.true c.term-item.is c.loop-term.invariant.written c.in_ok-put_term.ensures.text;
  in_range = more_in_range term_words c.args.terms.now c.loop-term.term-index c.term-item.result c.loop-term-test.true c.term-item.is c.loop-term.invariant.in_range c.in_ok-put_term.ensures.in_range;
}
