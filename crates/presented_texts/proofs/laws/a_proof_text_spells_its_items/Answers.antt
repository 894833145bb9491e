use Rattle.presented_texts.proofs.Whole.{proof_spells}
use Rattle.presented_texts.proofs.laws.a_proof_text_spells_its_items.Goals as goal

pub returns : goal.returns
returns c = proof_spells
