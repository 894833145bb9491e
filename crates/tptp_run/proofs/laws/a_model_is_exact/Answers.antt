use Rattle.tptp_run.proofs.ModelExact.{run_models}
use Rattle.tptp_run.proofs.laws.a_model_is_exact.Goals as goal

pub returns : goal.returns
returns c = run_models
