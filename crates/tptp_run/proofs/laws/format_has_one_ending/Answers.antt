use Rattle.tptp_commands.proofs.OneFormat.{one_format}
use Rattle.tptp_run.proofs.laws.format_has_one_ending.Goals as goal

pub returns : goal.returns
returns c = one_format
