use Rattle.std.proofs.Common.{take}
use Rattle.step_clauses.specs.Room.{wanted}
use Rattle.limited_items.proofs.AmountFacts.{totals_more, totals_none}
use Rattle.limited_items.proofs.PlaceFacts.{hold_more, hold_none}
use Rattle.limited_items.proofs.RoomFacts.{HasRoomAt, all_room, no_room, room_is}
use Rattle.limited_items.proofs.room.have_room.Goals as goal

pub loop-line-init : goal.loop-line-init
loop-line-init c = record {
  totals = totals_none wanted c.new-by_lines.result c.new-by_lines.ensures;
  room = hold_none (HasRoomAt c.args.symbols c.args.given.now c.args.lines.now) c.args.lines.now;
}

pub returns-then-not-has : goal.returns-then-not-has
returns-then-not-has c =
    no_room c.args.symbols c.args.given.now c.args.lines.now c.loop-line.line-index c.line-item.result c.in_ok-has.has c.loop-line-test.true c.line-item.is c.in_ok-has.ensures
    (room_is c.args.given.now (take c.loop-line.line-index c.args.lines.now) c.in_ok-by_given.by_given c.loop-line.by_lines c.in_ok-by_given.ensures c.loop-line.invariant.totals c.args.symbols c.line-item.result) c.if-not-has.true

pub loop-line-preserved : goal.loop-line-preserved
loop-line-preserved c = record {
  totals = totals_more wanted c.args.lines.now c.loop-line.line-index c.line-item.result c.as_slice.result.now c.in_ok-amount.amount c.loop-line.by_lines c.add.new.self c.loop-line-test.true c.line-item.is c.loop-line.invariant.totals c.as_slice.ensures c.in_ok-amount.ensures c.in_ok-add.ensures;
  room = hold_more (HasRoomAt c.args.symbols c.args.given.now c.args.lines.now) c.args.lines.now c.loop-line.line-index c.line-item.result c.loop-line-test.true c.line-item.is c.loop-line.invariant.room
      ((room_is c.args.given.now (take c.loop-line.line-index c.args.lines.now) c.in_ok-by_given.by_given c.loop-line.by_lines c.in_ok-by_given.ensures c.loop-line.invariant.totals c.args.symbols c.line-item.result).0 (c.in_ok-has.ensures.0 c.if-not-has.false));
}

pub returns : goal.returns
returns c = all_room c.args.symbols c.args.given.now c.args.lines.now c.loop-line.line-index c.loop-line-test.false c.loop-line.invariant.room
