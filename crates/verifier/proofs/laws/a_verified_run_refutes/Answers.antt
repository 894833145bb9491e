use Rattle.verifier.proofs.Refuting.{falsehood_stands, run_refutes}
use Rattle.verifier.proofs.laws.a_verified_run_refutes.Goals as goal

pub returns-clause-falsehood : goal.returns-clause-falsehood
returns-clause-falsehood c = falsehood_stands

pub returns-clause-refutes : goal.returns-clause-refutes
returns-clause-refutes c = run_refutes
