use Rattle.derivation_check.proofs.Ends.{good_not_stopped}
use Rattle.derivation_check.proofs.laws.a_good_case_has_room.Goals as goal

pub returns : goal.returns
returns c = good_not_stopped
