use Rattle.sort_check.proofs.Alike.{puts_at}
use Rattle.sort_check.proofs.namesakes.Namesakes.put.Goals as goal

pub returns : goal.returns
returns c = puts_at c.args.self.now (record { entries = c.insert.new.self }) _ c.args.name.now c.args.entry c.in_ok-from_slice.ensures.items c.in_ok-insert.ensures.updates
