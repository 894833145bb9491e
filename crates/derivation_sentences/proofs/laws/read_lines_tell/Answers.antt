use Rattle.derivation_sentences.proofs.Telling.{forms_tell, names_tell}
use Rattle.derivation_sentences.proofs.laws.read_lines_tell.Goals as goal

pub returns : goal.returns
returns c = record {
  names = λ place number read lines same. names_tell place number read lines same;
  forms = λ place number read lines same. forms_tell place number read lines same;
}
