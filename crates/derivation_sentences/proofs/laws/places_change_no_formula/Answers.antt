use Rattle.derivation_sentences.proofs.Placing.{text_moved}
use Rattle.derivation_sentences.proofs.laws.places_change_no_formula.Goals as goal

pub returns : goal.returns
returns c = λ place items v w kind lines h. text_moved place items v w kind lines h
