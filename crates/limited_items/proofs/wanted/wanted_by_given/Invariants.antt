use Rattle.std.proofs.Common.{take}
use Rattle.limited_items.specs.code.Amounts.{AreWanted}
use Rattle.limited_items.proofs.wanted.wanted_by_given.Given as goal

abbrev pub invariant-loop-entry : goal.invariant-loop-entry
invariant-loop-entry l = AreWanted (take l.entry-index l.given) l.by_given
