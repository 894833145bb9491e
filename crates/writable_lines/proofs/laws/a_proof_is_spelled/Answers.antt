use Rattle.writable_lines.proofs.Whole.{proof_spelled}
use Rattle.writable_lines.proofs.laws.a_proof_is_spelled.Goals as goal

pub returns : goal.returns
returns c = proof_spelled
