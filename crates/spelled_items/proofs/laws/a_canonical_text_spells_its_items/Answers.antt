use Rattle.spelled_items.proofs.Whole.{text_spells}
use Rattle.spelled_items.proofs.laws.a_canonical_text_spells_its_items.Goals as goal

pub returns : goal.returns
returns c = text_spells
