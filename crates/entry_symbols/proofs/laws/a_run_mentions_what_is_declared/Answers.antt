use Rattle.entry_symbols.proofs.Lines.{run_mentions}
use Rattle.entry_symbols.proofs.laws.a_run_mentions_what_is_declared.Goals as goal

pub returns : goal.returns
returns c = λ start d order answers entries end run. run_mentions start d order answers entries end run
