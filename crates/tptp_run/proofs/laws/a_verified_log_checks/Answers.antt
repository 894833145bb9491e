use Rattle.tptp_run.proofs.Exact.{run_checks, run_checks_beside}
use Rattle.tptp_run.proofs.laws.a_verified_log_checks.Goals as goal

pub returns-clause-alike : goal.returns-clause-alike
returns-clause-alike c = run_checks

pub returns-clause-beside : goal.returns-clause-beside
returns-clause-beside c = run_checks_beside
