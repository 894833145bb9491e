use Rattle.std.proofs.Common.{◌≡◌, ◌++◌, take}
use Rattle.std.specs.List.{All, flat_map}
use Rattle.proof_log.specs.LogText.{proof_text, proof_words}
use Rattle.proof_log.specs.Words.{AreInRange}
use Rattle.proof_log.proofs.proofs.+put_proof.Given as goal

abbrev pub invariant-put_proofs-loop-proof : goal.invariant-put_proofs-loop-proof
invariant-put_proofs-loop-proof l = record {
  written : l.text.items ≡ (l.initial.text.items ++ flat_map proof_text (take l.proof-index l.proofs));
  in_range : All (λ x. AreInRange (proof_words x)) (take l.proof-index l.proofs);
}
