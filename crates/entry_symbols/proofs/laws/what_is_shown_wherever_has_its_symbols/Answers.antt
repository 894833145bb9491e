use Rattle.entry_symbols.proofs.Everywhere.{wherever_lacks}
use Rattle.entry_symbols.proofs.laws.what_is_shown_wherever_has_its_symbols.Goals as goal

pub returns : goal.returns
returns c = λ w v a b p k few sorted shows absent. wherever_lacks w v a b p k few sorted shows absent
