use Rattle.derivation_follows.proofs.Cases.{default_justified}
use Rattle.derivation_follows.proofs.laws.the_word_of_a_proof_is_justified.Goals as goal

pub returns : goal.returns
returns c = λ claim word. default_justified claim word
