use Rattle.spelled_items.proofs.TypeLines.{type_lines_written}
use Rattle.spelled_items.proofs.laws.type_lines_can_be_written.Goals as goal

pub returns : goal.returns
returns c = type_lines_written
