use Rattle.unambiguous_names.proofs.Whole.{none_named, text_keeps}
use Rattle.unambiguous_names.proofs.laws.what_is_denoted_is_unambiguous.Goals as goal

pub returns : goal.returns
returns c = record {
  stays = λ items v w kind lines u e. text_keeps items v w kind lines e u;
  begins = λ v few none. none_named v few none;
}
