use Rattle.std.proofs.Common.{take}
use Rattle.step_clauses.specs.Room.{wanted}
use Rattle.limited_items.proofs.AmountFacts.{AreTotals}
use Rattle.limited_items.proofs.PlaceFacts.{HoldUpTo}
use Rattle.limited_items.proofs.RoomFacts.{HasRoomAt}
use Rattle.limited_items.proofs.room.have_room.Given as goal

abbrev pub invariant-loop-line : goal.invariant-loop-line
invariant-loop-line l = record {
  totals : AreTotals wanted (take l.line-index l.lines) l.by_lines;
  room : HoldUpTo (HasRoomAt l.symbols l.given l.lines) l.lines l.line-index;
}
