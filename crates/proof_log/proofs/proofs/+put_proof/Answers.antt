use Rattle.proof_log.proofs.Ranges.{if_written, always, list_in_range, more_in_range, proof_range-Line, proof_range-Hyp, proof_range-AndI, proof_range-AndE, proof_range-OrI, proof_range-OrE, proof_range-ImpI, proof_range-ImpE, proof_range-NotI, proof_range-NotE, proof_range-Raa, proof_range-IffI, proof_range-IffL, proof_range-IffR, proof_range-AllI, proof_range-AllE, proof_range-ExI, proof_range-ExE, proof_range-Refl, proof_range-Subst, proof_range-Inhabit}
use Rattle.proof_log.proofs.Pieces.{two_pieces, three_pieces, four_pieces, five_pieces, list_written, more_written}
use Rattle.proof_log.specs.LogText.{proof_text, proof_words}
use Rattle.proof_log.proofs.LogEquations.{proof_text-Line, proof_text-Hyp, proof_text-AndI, proof_text-AndE, proof_text-OrI, proof_text-OrE, proof_text-ImpI, proof_text-ImpE, proof_text-NotI, proof_text-NotE, proof_text-Raa, proof_text-IffI, proof_text-IffL, proof_text-IffR, proof_text-AllI, proof_text-AllE, proof_text-ExI, proof_text-ExE, proof_text-Refl, proof_text-Subst, proof_text-Inhabit}
use Rattle.proof_log.proofs.proofs.+put_proof.Goals as goal

pub put_proof-returns-in_ok-put_word-in-Line-clause-text : goal.put_proof-returns-in_ok-put_word-in-Line-clause-text
put_proof-returns-in_ok-put_word-in-Line-clause-text t c =
    rw (c.in-Line.is, proof_text-Line) (two_pieces c.put_number.result _ _ _ _ _ c.in_ok-put_word-in-Line.ensures c.put_number.ensures.text)

pub put_proof-returns-in_ok-put_word-in-Hyp-clause-text : goal.put_proof-returns-in_ok-put_word-in-Hyp-clause-text
put_proof-returns-in_ok-put_word-in-Hyp-clause-text t c =
    rw (c.in-Hyp.is, proof_text-Hyp) (two_pieces c.put_small.result _ _ _ _ _ c.in_ok-put_word-in-Hyp.ensures c.put_small.ensures.text)

pub put_proof-returns-in_ok-put_word-in-AndI-clause-text : goal.put_proof-returns-in_ok-put_word-in-AndI-clause-text
put_proof-returns-in_ok-put_word-in-AndI-clause-text t c =
    rw (c.in-AndI.is, proof_text-AndI) (two_pieces c.put_proofs.result _ _ _ _ _ c.in_ok-put_word-in-AndI.ensures (rw c.as_slice.ensures at c.put_proofs.ensures.text))

pub put_proof-returns-in_ok-put_small-in-AndE-clause-text : goal.put_proof-returns-in_ok-put_small-in-AndE-clause-text
put_proof-returns-in_ok-put_small-in-AndE-clause-text t c =
    rw (c.in-AndE.is, proof_text-AndE) (three_pieces c.put_proof.result _ _ _ _ _ _ _ c.in_ok-put_word-in-AndE.ensures c.in_ok-put_small-in-AndE.ensures.text (rw c.get.ensures at c.put_proof.ensures.text))

pub put_proof-returns-in_ok-put_small-in-OrI-clause-text : goal.put_proof-returns-in_ok-put_small-in-OrI-clause-text
put_proof-returns-in_ok-put_small-in-OrI-clause-text t c =
    rw (c.in-OrI.is, proof_text-OrI) (four_pieces c.put_proof-in-OrI.result _ _ _ _ _ _ _ _ _ c.in_ok-put_word-in-OrI.ensures (rw c.as_slice-in-OrI.ensures at c.in_ok-put_forms-in-OrI.ensures.text) c.in_ok-put_small-in-OrI.ensures.text (rw c.get-in-OrI.ensures at c.put_proof-in-OrI.ensures.text))

pub put_proof-returns-in_ok-put_proof-in-OrE-clause-text : goal.put_proof-returns-in_ok-put_proof-in-OrE-clause-text
put_proof-returns-in_ok-put_proof-in-OrE-clause-text t c =
    rw (c.in-OrE.is, proof_text-OrE) (four_pieces c.put_proofs-in-OrE.result _ _ _ _ _ _ _ _ _ c.in_ok-put_word-in-OrE.ensures (rw c.get-in-OrE.ensures at c.in_ok-put_form-in-OrE.ensures.text) (rw c.get-in-OrE-2.ensures at c.in_ok-put_proof-in-OrE.ensures.text) (rw c.as_slice-in-OrE.ensures at c.put_proofs-in-OrE.ensures.text))

pub put_proof-returns-in_ok-put_form-in-ImpI-clause-text : goal.put_proof-returns-in_ok-put_form-in-ImpI-clause-text
put_proof-returns-in_ok-put_form-in-ImpI-clause-text t c =
    rw (c.in-ImpI.is, proof_text-ImpI) (three_pieces c.put_proof-in-ImpI.result _ _ _ _ _ _ _ c.in_ok-put_word-in-ImpI.ensures (rw c.get-in-ImpI.ensures at c.in_ok-put_form-in-ImpI.ensures.text) (rw c.get-in-ImpI-2.ensures at c.put_proof-in-ImpI.ensures.text))

pub put_proof-returns-in_ok-put_proof-in-ImpE-clause-text : goal.put_proof-returns-in_ok-put_proof-in-ImpE-clause-text
put_proof-returns-in_ok-put_proof-in-ImpE-clause-text t c =
    rw (c.in-ImpE.is, proof_text-ImpE) (three_pieces c.put_proof-in-ImpE-2.result _ _ _ _ _ _ _ c.in_ok-put_word-in-ImpE.ensures (rw c.get-in-ImpE.ensures at c.in_ok-put_proof-in-ImpE.ensures.text) (rw c.get-in-ImpE-2.ensures at c.put_proof-in-ImpE-2.ensures.text))

pub put_proof-returns-in_ok-put_form-in-NotI-clause-text : goal.put_proof-returns-in_ok-put_form-in-NotI-clause-text
put_proof-returns-in_ok-put_form-in-NotI-clause-text t c =
    rw (c.in-NotI.is, proof_text-NotI) (three_pieces c.put_proof-in-NotI.result _ _ _ _ _ _ _ c.in_ok-put_word-in-NotI.ensures (rw c.get-in-NotI.ensures at c.in_ok-put_form-in-NotI.ensures.text) (rw c.get-in-NotI-2.ensures at c.put_proof-in-NotI.ensures.text))

pub put_proof-returns-in_ok-put_proof-in-NotE-clause-text : goal.put_proof-returns-in_ok-put_proof-in-NotE-clause-text
put_proof-returns-in_ok-put_proof-in-NotE-clause-text t c =
    rw (c.in-NotE.is, proof_text-NotE) (three_pieces c.put_proof-in-NotE-2.result _ _ _ _ _ _ _ c.in_ok-put_word-in-NotE.ensures (rw c.get-in-NotE.ensures at c.in_ok-put_proof-in-NotE.ensures.text) (rw c.get-in-NotE-2.ensures at c.put_proof-in-NotE-2.ensures.text))

pub put_proof-returns-in_ok-put_form-in-Raa-clause-text : goal.put_proof-returns-in_ok-put_form-in-Raa-clause-text
put_proof-returns-in_ok-put_form-in-Raa-clause-text t c =
    rw (c.in-Raa.is, proof_text-Raa) (three_pieces c.put_proof-in-Raa.result _ _ _ _ _ _ _ c.in_ok-put_word-in-Raa.ensures (rw c.get-in-Raa.ensures at c.in_ok-put_form-in-Raa.ensures.text) (rw c.get-in-Raa-2.ensures at c.put_proof-in-Raa.ensures.text))

pub put_proof-returns-in_ok-put_proof-in-IffI-clause-text : goal.put_proof-returns-in_ok-put_proof-in-IffI-clause-text
put_proof-returns-in_ok-put_proof-in-IffI-clause-text t c =
    rw (c.in-IffI.is, proof_text-IffI) (five_pieces c.put_proof-in-IffI-2.result _ _ _ _ _ _ _ _ _ _ _ c.in_ok-put_word-in-IffI.ensures (rw c.get-in-IffI.ensures at c.in_ok-put_form-in-IffI.ensures.text) (rw c.get-in-IffI-2.ensures at c.in_ok-put_form-in-IffI-2.ensures.text) (rw c.get-in-IffI-3.ensures at c.in_ok-put_proof-in-IffI.ensures.text) (rw c.get-in-IffI-4.ensures at c.put_proof-in-IffI-2.ensures.text))

pub put_proof-returns-in_ok-put_proof-in-IffL-clause-text : goal.put_proof-returns-in_ok-put_proof-in-IffL-clause-text
put_proof-returns-in_ok-put_proof-in-IffL-clause-text t c =
    rw (c.in-IffL.is, proof_text-IffL) (three_pieces c.put_proof-in-IffL-2.result _ _ _ _ _ _ _ c.in_ok-put_word-in-IffL.ensures (rw c.get-in-IffL.ensures at c.in_ok-put_proof-in-IffL.ensures.text) (rw c.get-in-IffL-2.ensures at c.put_proof-in-IffL-2.ensures.text))

pub put_proof-returns-in_ok-put_proof-in-IffR-clause-text : goal.put_proof-returns-in_ok-put_proof-in-IffR-clause-text
put_proof-returns-in_ok-put_proof-in-IffR-clause-text t c =
    rw (c.in-IffR.is, proof_text-IffR) (three_pieces c.put_proof-in-IffR-2.result _ _ _ _ _ _ _ c.in_ok-put_word-in-IffR.ensures (rw c.get-in-IffR.ensures at c.in_ok-put_proof-in-IffR.ensures.text) (rw c.get-in-IffR-2.ensures at c.put_proof-in-IffR-2.ensures.text))

pub put_proof-returns-in_ok-put_small-in-AllI-clause-text : goal.put_proof-returns-in_ok-put_small-in-AllI-clause-text
put_proof-returns-in_ok-put_small-in-AllI-clause-text t c =
    rw (c.in-AllI.is, proof_text-AllI) (three_pieces c.put_proof-in-AllI.result _ _ _ _ _ _ _ c.in_ok-put_word-in-AllI.ensures c.in_ok-put_small-in-AllI.ensures.text (rw c.get-in-AllI.ensures at c.put_proof-in-AllI.ensures.text))

pub put_proof-returns-in_ok-put_term-in-AllE-clause-text : goal.put_proof-returns-in_ok-put_term-in-AllE-clause-text
put_proof-returns-in_ok-put_term-in-AllE-clause-text t c =
    rw (c.in-AllE.is, proof_text-AllE) (three_pieces c.put_proof-in-AllE.result _ _ _ _ _ _ _ c.in_ok-put_word-in-AllE.ensures (rw c.get-in-AllE.ensures at c.in_ok-put_term-in-AllE.ensures.text) (rw c.get-in-AllE-2.ensures at c.put_proof-in-AllE.ensures.text))

pub put_proof-returns-in_ok-put_term-in-ExI-clause-text : goal.put_proof-returns-in_ok-put_term-in-ExI-clause-text
put_proof-returns-in_ok-put_term-in-ExI-clause-text t c =
    rw (c.in-ExI.is, proof_text-ExI) (five_pieces c.put_proof-in-ExI.result _ _ _ _ _ _ _ _ _ _ _ c.in_ok-put_word-in-ExI.ensures c.in_ok-put_small-in-ExI.ensures.text (rw c.get-in-ExI.ensures at c.in_ok-put_form-in-ExI.ensures.text) (rw c.get-in-ExI-2.ensures at c.in_ok-put_term-in-ExI.ensures.text) (rw c.get-in-ExI-3.ensures at c.put_proof-in-ExI.ensures.text))

pub put_proof-returns-in_ok-put_proof-in-ExE-clause-text : goal.put_proof-returns-in_ok-put_proof-in-ExE-clause-text
put_proof-returns-in_ok-put_proof-in-ExE-clause-text t c =
    rw (c.in-ExE.is, proof_text-ExE) (four_pieces c.put_proof-in-ExE-2.result _ _ _ _ _ _ _ _ _ c.in_ok-put_word-in-ExE.ensures (rw c.get-in-ExE.ensures at c.in_ok-put_form-in-ExE.ensures.text) (rw c.get-in-ExE-2.ensures at c.in_ok-put_proof-in-ExE.ensures.text) (rw c.get-in-ExE-3.ensures at c.put_proof-in-ExE-2.ensures.text))

pub put_proof-returns-in_ok-put_word-in-Refl-clause-text : goal.put_proof-returns-in_ok-put_word-in-Refl-clause-text
put_proof-returns-in_ok-put_word-in-Refl-clause-text t c =
    rw (c.in-Refl.is, proof_text-Refl) (two_pieces c.put_term-in-Refl.result _ _ _ _ _ c.in_ok-put_word-in-Refl.ensures (rw c.get-in-Refl.ensures at c.put_term-in-Refl.ensures.text))

pub put_proof-returns-in_ok-put_proof-in-Subst-clause-text : goal.put_proof-returns-in_ok-put_proof-in-Subst-clause-text
put_proof-returns-in_ok-put_proof-in-Subst-clause-text t c =
    rw (c.in-Subst.is, proof_text-Subst) (five_pieces c.put_proof-in-Subst-2.result _ _ _ _ _ _ _ _ _ _ _ c.in_ok-put_word-in-Subst.ensures c.in_ok-put_small-in-Subst.ensures.text (rw c.get-in-Subst.ensures at c.in_ok-put_form-in-Subst.ensures.text) (rw c.get-in-Subst-2.ensures at c.in_ok-put_proof-in-Subst.ensures.text) (rw c.get-in-Subst-3.ensures at c.put_proof-in-Subst-2.ensures.text))

pub put_proof-returns-in_ok-put_form-in-Inhabit-clause-text : goal.put_proof-returns-in_ok-put_form-in-Inhabit-clause-text
put_proof-returns-in_ok-put_form-in-Inhabit-clause-text t c =
    rw (c.in-Inhabit.is, proof_text-Inhabit) (four_pieces c.put_proof-in-Inhabit.result _ _ _ _ _ _ _ _ _ c.in_ok-put_word-in-Inhabit.ensures c.in_ok-put_small-in-Inhabit.ensures.text (rw c.get-in-Inhabit.ensures at c.in_ok-put_form-in-Inhabit.ensures.text) (rw c.get-in-Inhabit-2.ensures at c.put_proof-in-Inhabit.ensures.text))

pub put_proofs-returns-clause-text : goal.put_proofs-returns-clause-text
put_proofs-returns-clause-text t c = list_written proof_text c.args.proofs.now c.loop-proof.proof-index _ _ _ c.loop-proof-test.false c.in_ok-put_number.ensures.text c.loop-proof.invariant.written

pub put_proof-returns-in_ok-put_word-in-Line-clause-in_range : goal.put_proof-returns-in_ok-put_word-in-Line-clause-in_range
put_proof-returns-in_ok-put_word-in-Line-clause-in_range t c =
    rw c.in-Line.is (always c.put_number.result (proof_range-Line _ c.put_number.ensures.large))

pub put_proof-returns-in_ok-put_word-in-Hyp-clause-in_range : goal.put_proof-returns-in_ok-put_word-in-Hyp-clause-in_range
put_proof-returns-in_ok-put_word-in-Hyp-clause-in_range t c =
    rw c.in-Hyp.is (always c.put_small.result (proof_range-Hyp _ c.put_small.ensures.small))

pub put_proof-returns-in_ok-put_word-in-AndI-clause-in_range : goal.put_proof-returns-in_ok-put_word-in-AndI-clause-in_range
put_proof-returns-in_ok-put_word-in-AndI-clause-in_range t c =
    rw c.in-AndI.is (if_written c.put_proofs.result (λ h. proof_range-AndI _ h) (rw c.as_slice.ensures at c.put_proofs.ensures.in_range))

pub put_proof-returns-in_ok-put_small-in-AndE-clause-in_range : goal.put_proof-returns-in_ok-put_small-in-AndE-clause-in_range
put_proof-returns-in_ok-put_small-in-AndE-clause-in_range t c =
    rw c.in-AndE.is (if_written c.put_proof.result (λ h. proof_range-AndE _ _ c.in_ok-put_small-in-AndE.ensures.small h) (rw c.get.ensures at c.put_proof.ensures.in_range))

pub put_proof-returns-in_ok-put_small-in-OrI-clause-in_range : goal.put_proof-returns-in_ok-put_small-in-OrI-clause-in_range
put_proof-returns-in_ok-put_small-in-OrI-clause-in_range t c =
    rw c.in-OrI.is (if_written c.put_proof-in-OrI.result (λ h. proof_range-OrI _ _ _ (rw c.as_slice-in-OrI.ensures at c.in_ok-put_forms-in-OrI.ensures.in_range) c.in_ok-put_small-in-OrI.ensures.small h) (rw c.get-in-OrI.ensures at c.put_proof-in-OrI.ensures.in_range))

pub put_proof-returns-in_ok-put_proof-in-OrE-clause-in_range : goal.put_proof-returns-in_ok-put_proof-in-OrE-clause-in_range
put_proof-returns-in_ok-put_proof-in-OrE-clause-in_range t c =
    rw c.in-OrE.is (if_written c.put_proofs-in-OrE.result (λ h. proof_range-OrE _ _ _ (rw c.get-in-OrE.ensures at c.in_ok-put_form-in-OrE.ensures.in_range) (rw c.get-in-OrE-2.ensures at c.in_ok-put_proof-in-OrE.ensures.in_range) h) (rw c.as_slice-in-OrE.ensures at c.put_proofs-in-OrE.ensures.in_range))

pub put_proof-returns-in_ok-put_form-in-ImpI-clause-in_range : goal.put_proof-returns-in_ok-put_form-in-ImpI-clause-in_range
put_proof-returns-in_ok-put_form-in-ImpI-clause-in_range t c =
    rw c.in-ImpI.is (if_written c.put_proof-in-ImpI.result (λ h. proof_range-ImpI _ _ (rw c.get-in-ImpI.ensures at c.in_ok-put_form-in-ImpI.ensures.in_range) h) (rw c.get-in-ImpI-2.ensures at c.put_proof-in-ImpI.ensures.in_range))

pub put_proof-returns-in_ok-put_proof-in-ImpE-clause-in_range : goal.put_proof-returns-in_ok-put_proof-in-ImpE-clause-in_range
put_proof-returns-in_ok-put_proof-in-ImpE-clause-in_range t c =
    rw c.in-ImpE.is (if_written c.put_proof-in-ImpE-2.result (λ h. proof_range-ImpE _ _ (rw c.get-in-ImpE.ensures at c.in_ok-put_proof-in-ImpE.ensures.in_range) h) (rw c.get-in-ImpE-2.ensures at c.put_proof-in-ImpE-2.ensures.in_range))

pub put_proof-returns-in_ok-put_form-in-NotI-clause-in_range : goal.put_proof-returns-in_ok-put_form-in-NotI-clause-in_range
put_proof-returns-in_ok-put_form-in-NotI-clause-in_range t c =
    rw c.in-NotI.is (if_written c.put_proof-in-NotI.result (λ h. proof_range-NotI _ _ (rw c.get-in-NotI.ensures at c.in_ok-put_form-in-NotI.ensures.in_range) h) (rw c.get-in-NotI-2.ensures at c.put_proof-in-NotI.ensures.in_range))

pub put_proof-returns-in_ok-put_proof-in-NotE-clause-in_range : goal.put_proof-returns-in_ok-put_proof-in-NotE-clause-in_range
put_proof-returns-in_ok-put_proof-in-NotE-clause-in_range t c =
    rw c.in-NotE.is (if_written c.put_proof-in-NotE-2.result (λ h. proof_range-NotE _ _ (rw c.get-in-NotE.ensures at c.in_ok-put_proof-in-NotE.ensures.in_range) h) (rw c.get-in-NotE-2.ensures at c.put_proof-in-NotE-2.ensures.in_range))

pub put_proof-returns-in_ok-put_form-in-Raa-clause-in_range : goal.put_proof-returns-in_ok-put_form-in-Raa-clause-in_range
put_proof-returns-in_ok-put_form-in-Raa-clause-in_range t c =
    rw c.in-Raa.is (if_written c.put_proof-in-Raa.result (λ h. proof_range-Raa _ _ (rw c.get-in-Raa.ensures at c.in_ok-put_form-in-Raa.ensures.in_range) h) (rw c.get-in-Raa-2.ensures at c.put_proof-in-Raa.ensures.in_range))

pub put_proof-returns-in_ok-put_proof-in-IffI-clause-in_range : goal.put_proof-returns-in_ok-put_proof-in-IffI-clause-in_range
put_proof-returns-in_ok-put_proof-in-IffI-clause-in_range t c =
    rw c.in-IffI.is (if_written c.put_proof-in-IffI-2.result (λ h. proof_range-IffI _ _ _ _ (rw c.get-in-IffI.ensures at c.in_ok-put_form-in-IffI.ensures.in_range) (rw c.get-in-IffI-2.ensures at c.in_ok-put_form-in-IffI-2.ensures.in_range) (rw c.get-in-IffI-3.ensures at c.in_ok-put_proof-in-IffI.ensures.in_range) h) (rw c.get-in-IffI-4.ensures at c.put_proof-in-IffI-2.ensures.in_range))

pub put_proof-returns-in_ok-put_proof-in-IffL-clause-in_range : goal.put_proof-returns-in_ok-put_proof-in-IffL-clause-in_range
put_proof-returns-in_ok-put_proof-in-IffL-clause-in_range t c =
    rw c.in-IffL.is (if_written c.put_proof-in-IffL-2.result (λ h. proof_range-IffL _ _ (rw c.get-in-IffL.ensures at c.in_ok-put_proof-in-IffL.ensures.in_range) h) (rw c.get-in-IffL-2.ensures at c.put_proof-in-IffL-2.ensures.in_range))

pub put_proof-returns-in_ok-put_proof-in-IffR-clause-in_range : goal.put_proof-returns-in_ok-put_proof-in-IffR-clause-in_range
put_proof-returns-in_ok-put_proof-in-IffR-clause-in_range t c =
    rw c.in-IffR.is (if_written c.put_proof-in-IffR-2.result (λ h. proof_range-IffR _ _ (rw c.get-in-IffR.ensures at c.in_ok-put_proof-in-IffR.ensures.in_range) h) (rw c.get-in-IffR-2.ensures at c.put_proof-in-IffR-2.ensures.in_range))

pub put_proof-returns-in_ok-put_small-in-AllI-clause-in_range : goal.put_proof-returns-in_ok-put_small-in-AllI-clause-in_range
put_proof-returns-in_ok-put_small-in-AllI-clause-in_range t c =
    rw c.in-AllI.is (if_written c.put_proof-in-AllI.result (λ h. proof_range-AllI _ _ c.in_ok-put_small-in-AllI.ensures.small h) (rw c.get-in-AllI.ensures at c.put_proof-in-AllI.ensures.in_range))

pub put_proof-returns-in_ok-put_term-in-AllE-clause-in_range : goal.put_proof-returns-in_ok-put_term-in-AllE-clause-in_range
put_proof-returns-in_ok-put_term-in-AllE-clause-in_range t c =
    rw c.in-AllE.is (if_written c.put_proof-in-AllE.result (λ h. proof_range-AllE _ _ (rw c.get-in-AllE.ensures at c.in_ok-put_term-in-AllE.ensures.in_range) h) (rw c.get-in-AllE-2.ensures at c.put_proof-in-AllE.ensures.in_range))

pub put_proof-returns-in_ok-put_term-in-ExI-clause-in_range : goal.put_proof-returns-in_ok-put_term-in-ExI-clause-in_range
put_proof-returns-in_ok-put_term-in-ExI-clause-in_range t c =
    rw c.in-ExI.is (if_written c.put_proof-in-ExI.result (λ h. proof_range-ExI _ _ _ _ c.in_ok-put_small-in-ExI.ensures.small (rw c.get-in-ExI.ensures at c.in_ok-put_form-in-ExI.ensures.in_range) (rw c.get-in-ExI-2.ensures at c.in_ok-put_term-in-ExI.ensures.in_range) h) (rw c.get-in-ExI-3.ensures at c.put_proof-in-ExI.ensures.in_range))

pub put_proof-returns-in_ok-put_proof-in-ExE-clause-in_range : goal.put_proof-returns-in_ok-put_proof-in-ExE-clause-in_range
put_proof-returns-in_ok-put_proof-in-ExE-clause-in_range t c =
    rw c.in-ExE.is (if_written c.put_proof-in-ExE-2.result (λ h. proof_range-ExE _ _ _ (rw c.get-in-ExE.ensures at c.in_ok-put_form-in-ExE.ensures.in_range) (rw c.get-in-ExE-2.ensures at c.in_ok-put_proof-in-ExE.ensures.in_range) h) (rw c.get-in-ExE-3.ensures at c.put_proof-in-ExE-2.ensures.in_range))

pub put_proof-returns-in_ok-put_word-in-Refl-clause-in_range : goal.put_proof-returns-in_ok-put_word-in-Refl-clause-in_range
put_proof-returns-in_ok-put_word-in-Refl-clause-in_range t c =
    rw c.in-Refl.is (if_written c.put_term-in-Refl.result (λ h. proof_range-Refl _ h) (rw c.get-in-Refl.ensures at c.put_term-in-Refl.ensures.in_range))

pub put_proof-returns-in_ok-put_proof-in-Subst-clause-in_range : goal.put_proof-returns-in_ok-put_proof-in-Subst-clause-in_range
put_proof-returns-in_ok-put_proof-in-Subst-clause-in_range t c =
    rw c.in-Subst.is (if_written c.put_proof-in-Subst-2.result (λ h. proof_range-Subst _ _ _ _ c.in_ok-put_small-in-Subst.ensures.small (rw c.get-in-Subst.ensures at c.in_ok-put_form-in-Subst.ensures.in_range) (rw c.get-in-Subst-2.ensures at c.in_ok-put_proof-in-Subst.ensures.in_range) h) (rw c.get-in-Subst-3.ensures at c.put_proof-in-Subst-2.ensures.in_range))

pub put_proof-returns-in_ok-put_form-in-Inhabit-clause-in_range : goal.put_proof-returns-in_ok-put_form-in-Inhabit-clause-in_range
put_proof-returns-in_ok-put_form-in-Inhabit-clause-in_range t c =
    rw c.in-Inhabit.is (if_written c.put_proof-in-Inhabit.result (λ h. proof_range-Inhabit _ _ _ c.in_ok-put_small-in-Inhabit.ensures.small (rw c.get-in-Inhabit.ensures at c.in_ok-put_form-in-Inhabit.ensures.in_range) h) (rw c.get-in-Inhabit-2.ensures at c.put_proof-in-Inhabit.ensures.in_range))

pub put_proofs-returns-clause-in_range : goal.put_proofs-returns-clause-in_range
put_proofs-returns-clause-in_range t c = list_in_range proof_words c.args.proofs.now c.loop-proof.proof-index c.loop-proof-test.false c.in_ok-put_number.ensures.large c.loop-proof.invariant.in_range

pub put_proofs-loop-proof-preserved : goal.put_proofs-loop-proof-preserved
put_proofs-loop-proof-preserved t c = record {
  written = more_written proof_text c.args.proofs.now c.loop-proof.proof-index c.proof-item.result _ _ _ c.loop-proof-test.true c.proof-item.is c.loop-proof.invariant.written c.in_ok-put_proof.ensures.text;
  in_range = more_in_range proof_words c.args.proofs.now c.loop-proof.proof-index c.proof-item.result c.loop-proof-test.true c.proof-item.is c.loop-proof.invariant.in_range c.in_ok-put_proof.ensures.in_range;
}
