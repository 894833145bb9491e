use Rattle.std.proofs.Common.{arith}
use Rattle.limited_items.proofs.PrintedFacts.{lines_over, of_lines, symbols_over, symbols_within, within}
use Rattle.limited_items.proofs.items.items_within.Goals as goal

pub returns-then-count_of-gt-MAX_LINES-clause-limit : goal.returns-then-count_of-gt-MAX_LINES-clause-limit
returns-then-count_of-gt-MAX_LINES-clause-limit c = lines_over c.args.sig.now c.args.first c.args.lines.now c.in_ok-items.items c.count_of.result c.in_ok-items.ensures c.count_of.ensures (omega arith)

pub returns-in_err-items_of_lines-clause-limit : goal.returns-in_err-items_of_lines-clause-limit
returns-in_err-items_of_lines-clause-limit c =
    of_lines c.args.sig.now c.args.first c.args.given.now c.args.lines.now c.from_residual-in_err-items_of_lines.result c.in_err-items_of_lines.field-0.0 c.from_residual-in_err-items_of_lines.ensures.1 c.in_err-items_of_lines.ensures.limit

pub returns-then-not-room-clause-limit : goal.returns-then-not-room-clause-limit
returns-then-not-room-clause-limit c = symbols_over c.args.sig.now c.args.given.now c.args.lines.now c.from.result c.in_ok-room.room (omega arith) c.in_ok-room.ensures c.if-not-room.true

pub returns-clause-items : goal.returns-clause-items
returns-clause-items c =
    within c.args.sig.now c.args.first c.args.lines.now c.in_ok-items.items c.count_of.result c.in_ok-items.ensures c.count_of.ensures c.args.file.now c.args.given.now c.in_ok-items_of_lines.field-0 c.append.new.self (omega arith) c.in_ok-items_of_lines.ensures.items c.in_ok-append.ensures
    (symbols_within c.args.sig.now c.args.given.now c.args.lines.now c.from.result c.in_ok-room.room (omega arith) c.in_ok-room.ensures c.if-not-room.false)
