use Rattle.writable_lines.proofs.Whole.{derivation_spelled}
use Rattle.writable_lines.proofs.laws.a_derivation_is_spelled.Goals as goal

pub returns : goal.returns
returns c = derivation_spelled
