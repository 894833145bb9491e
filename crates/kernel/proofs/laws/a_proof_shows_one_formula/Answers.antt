use Rattle.kernel.proofs.OneFormula.{one_shown}
use Rattle.kernel.proofs.laws.a_proof_shows_one_formula.Goals as goal

pub returns : goal.returns
returns c = one_shown
