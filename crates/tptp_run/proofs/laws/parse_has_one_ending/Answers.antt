use Rattle.tptp_commands.proofs.OneEnding.{one_parse}
use Rattle.tptp_run.proofs.laws.parse_has_one_ending.Goals as goal

pub returns : goal.returns
returns c = one_parse
