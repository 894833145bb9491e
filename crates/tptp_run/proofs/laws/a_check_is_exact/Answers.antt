use Rattle.tptp_run.proofs.Exact.{run_exact}
use Rattle.tptp_run.proofs.laws.a_check_is_exact.Goals as goal

pub returns : goal.returns
returns c = run_exact
