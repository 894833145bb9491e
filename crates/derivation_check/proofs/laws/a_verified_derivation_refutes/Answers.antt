use Rattle.derivation_check.proofs.Ends.{refutes}
use Rattle.derivation_check.proofs.laws.a_verified_derivation_refutes.Goals as goal

pub returns : goal.returns
returns c = refutes
