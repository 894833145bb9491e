use Rattle.entry_symbols.proofs.Declared.{mention_declared}
use Rattle.entry_symbols.proofs.laws.legal_entries_mention_what_is_declared.Goals as goal

pub returns : goal.returns
returns c = λ t u entries admits. mention_declared t entries u admits
