use Rattle.derivation_sentences.proofs.Reading.{read_denote}
use Rattle.derivation_sentences.proofs.laws.read_items_denote_lines.Goals as goal

pub returns : goal.returns
returns c = λ v given file limit d items others u ready found within same. read_denote v given file limit d items others u ready found within same
