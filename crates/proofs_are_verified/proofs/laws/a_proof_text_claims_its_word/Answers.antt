use Rattle.proofs_are_verified.proofs.Claims.{claims_word}
use Rattle.proofs_are_verified.proofs.laws.a_proof_text_claims_its_word.Goals as goal

pub returns : goal.returns
returns c = claims_word
