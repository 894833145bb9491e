use Rattle.derivation_order.proofs.Rooms.{have_room}
use Rattle.derivation_order.proofs.laws.linked_lines_have_room.Goals as goal

pub returns : goal.returns
returns c = λ w given lines types graph limit linked is room. have_room w given lines types graph limit linked is room
