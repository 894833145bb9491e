use Rattle.derivation_check.proofs.Ends.{refutes_logged}
use Rattle.derivation_check.proofs.laws.a_verified_log_can_be_read.Goals as goal

pub returns : goal.returns
returns c = refutes_logged
