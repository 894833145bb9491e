use Rattle.derivation_check.proofs.Ends.{spares}
use Rattle.derivation_check.proofs.laws.no_conjecture_is_cited.Goals as goal

pub returns : goal.returns
returns c = spares
