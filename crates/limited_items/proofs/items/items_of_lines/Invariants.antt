use Rattle.std.proofs.Common.{take}
use Rattle.std.specs.List.{AllZip}
use Rattle.limited_items.specs.Printed.{IsPrinted}
use Rattle.limited_items.proofs.items.items_of_lines.Given as goal

abbrev pub invariant-loop-line : goal.invariant-loop-line
invariant-loop-line l = AllZip (IsPrinted l.file l.sig) (take l.line-index l.lines) l.items
