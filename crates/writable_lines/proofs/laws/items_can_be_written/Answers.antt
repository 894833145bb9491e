use Rattle.writable_lines.proofs.Whole.{items_written}
use Rattle.writable_lines.proofs.laws.items_can_be_written.Goals as goal

pub returns : goal.returns
returns c = items_written
