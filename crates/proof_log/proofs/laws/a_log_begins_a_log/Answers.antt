use Rattle.proof_log.proofs.LogLaws.{prefix_log}
use Rattle.proof_log.proofs.laws.a_log_begins_a_log.Goals as goal

pub returns : goal.returns
returns c = prefix_log
