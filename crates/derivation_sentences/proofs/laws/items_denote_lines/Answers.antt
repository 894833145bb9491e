use Rattle.derivation_sentences.proofs.Found.{found_denote}
use Rattle.derivation_sentences.proofs.laws.items_denote_lines.Goals as goal

pub returns : goal.returns
returns c = λ v given file limit d items u ready found within. found_denote v given file limit d items u ready found within
