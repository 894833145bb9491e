use Rattle.derivation_sentences.proofs.Sorted.{lines_fit}
use Rattle.derivation_sentences.proofs.laws.lines_are_sorted.Goals as goal

pub returns : goal.returns
returns c = λ v given limit d ready found. lines_fit v given limit d ready found
