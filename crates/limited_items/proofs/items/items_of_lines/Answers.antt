use Rattle.limited_items.specs.Printed.{IsPrinted}
use Rattle.limited_items.proofs.PlaceFacts.{zipped}
use Rattle.limited_items.proofs.PrintedFacts.{of_line}
use Rattle.limited_items.proofs.items.items_of_lines.Goals as goal

pub returns-in_err-item_of_line-clause-limit : goal.returns-in_err-item_of_line-clause-limit
returns-in_err-item_of_line-clause-limit c =
    of_line c.args.sig.now c.args.lines.now c.loop-line.line-index c.line-item.result c.from_residual.result c.in_err-item_of_line.field-0.0 c.loop-line-test.true c.line-item.is c.from_residual.ensures.1 c.in_err-item_of_line.ensures.limit

pub loop-line-preserved : goal.loop-line-preserved
loop-line-preserved c =
    zipped (IsPrinted c.args.file.now c.args.sig.now) c.args.lines.now c.loop-line.items c.loop-line.line-index c.line-item.result c.in_ok-item_of_line.field-0 c.push.new.self c.loop-line-test.true c.line-item.is c.loop-line.invariant c.in_ok-item_of_line.ensures.item c.in_ok-push.ensures.ok
