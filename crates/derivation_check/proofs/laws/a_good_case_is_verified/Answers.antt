use Rattle.derivation_check.proofs.Ends.{good_verified}
use Rattle.derivation_check.proofs.laws.a_good_case_is_verified.Goals as goal

pub returns : goal.returns
returns c = good_verified
