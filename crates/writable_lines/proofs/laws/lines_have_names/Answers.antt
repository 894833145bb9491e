use Rattle.writable_lines.proofs.Naming.{lines_named}
use Rattle.writable_lines.proofs.laws.lines_have_names.Goals as goal

pub returns : goal.returns
returns c = lines_named
