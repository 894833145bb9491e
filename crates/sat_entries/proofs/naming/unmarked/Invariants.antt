use Rattle.std.proofs.Common.{◌≡◌, length}
use Rattle.sat_entries.proofs.naming.unmarked.Given as goal

abbrev pub invariant-loop : goal.invariant-loop
invariant-loop l = length l.marks ≡ l.counter
