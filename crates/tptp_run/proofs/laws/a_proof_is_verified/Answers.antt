use Rattle.tptp_run.proofs.ProvedTexts.{run_verified, run_refutes}
use Rattle.tptp_run.proofs.laws.a_proof_is_verified.Goals as goal

pub returns-clause-verified : goal.returns-clause-verified
returns-clause-verified c = run_verified

pub returns-clause-refuted : goal.returns-clause-refuted
returns-clause-refuted c = run_refutes
