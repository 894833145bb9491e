use Rattle.limited_items.proofs.AmountFacts.{wanted_more}
use Rattle.limited_items.proofs.wanted.add_entry.Goals as goal

pub returns : goal.returns
returns c = λ given are. wanted_more given c.args.entry.now c.in_ok-amount.amount c.args.by_given.now (record { names = c.add.new.self; all = c.saturating_add-all.result }) c.in_ok-amount.ensures c.in_ok-add.ensures c.saturating_add-all.ensures are
