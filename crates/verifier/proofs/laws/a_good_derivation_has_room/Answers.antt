use Rattle.verifier.proofs.Rooms.{good_not_stopped}
use Rattle.verifier.proofs.laws.a_good_derivation_has_room.Goals as goal

pub returns : goal.returns
returns c = good_not_stopped
