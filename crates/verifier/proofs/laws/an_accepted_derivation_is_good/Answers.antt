use Rattle.verifier.proofs.Accepting.{accepted_good}
use Rattle.verifier.proofs.laws.an_accepted_derivation_is_good.Goals as goal

pub returns : goal.returns
returns c = accepted_good
