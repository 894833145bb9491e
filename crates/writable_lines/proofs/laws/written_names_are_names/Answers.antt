use Rattle.writable_lines.proofs.Naming.{names_are}
use Rattle.writable_lines.proofs.laws.written_names_are_names.Goals as goal

pub returns : goal.returns
returns c = names_are
