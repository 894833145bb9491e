use Rattle.derivation_check.proofs.Ends.{verified_good}
use Rattle.derivation_check.proofs.laws.a_verified_case_is_good.Goals as goal

pub returns : goal.returns
returns c = verified_good
