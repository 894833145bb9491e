use Rattle.verifier.proofs.Goodness.{good_accepted}
use Rattle.verifier.proofs.Marking.{good_unmarked}
use Rattle.verifier.proofs.laws.a_good_derivation_is_accepted.Goals as goal

pub returns-clause-accepted : goal.returns-clause-accepted
returns-clause-accepted c = good_accepted

pub returns-clause-unmarked : goal.returns-clause-unmarked
returns-clause-unmarked c = good_unmarked
