use Rattle.tptp_run.proofs.OneVerify.{one_verify}
use Rattle.tptp_run.proofs.laws.verify_has_one_ending.Goals as goal

pub returns : goal.returns
returns c = one_verify
