use Rattle.std.proofs.Common.{◌≡◌, take}
use Rattle.superpose.proofs.copying.+copied.Given as goal

abbrev pub invariant-all_copied-loop-term : goal.invariant-all_copied-loop-term
invariant-all_copied-loop-term l = l.copies.items ≡ take l.term-index l.terms
