use Rattle.proof_log.proofs.LogLaws.{one_log}
use Rattle.proof_log.proofs.laws.one_text_is_of_one_log.Goals as goal

pub returns : goal.returns
returns c = one_log
