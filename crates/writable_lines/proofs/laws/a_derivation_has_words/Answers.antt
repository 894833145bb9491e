use Rattle.writable_lines.proofs.Naming.{derivation_words}
use Rattle.writable_lines.proofs.laws.a_derivation_has_words.Goals as goal

pub returns : goal.returns
returns c = derivation_words
