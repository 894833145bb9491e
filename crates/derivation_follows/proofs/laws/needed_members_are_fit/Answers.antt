use Rattle.derivation_follows.proofs.Fitting.{members_fit}
use Rattle.derivation_follows.proofs.laws.needed_members_are_fit.Goals as goal

pub returns : goal.returns
returns c = λ v given limit d ready f. members_fit v given limit d f ready
