use Rattle.verifier.proofs.Citing.{line_spares}
use Rattle.verifier.proofs.laws.a_line_cites_what_is_said.Goals as goal

pub returns : goal.returns
returns c = line_spares
