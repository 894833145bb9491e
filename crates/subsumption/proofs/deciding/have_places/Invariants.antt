use Rattle.std.proofs.Common.{◌≡◌, replicate, false}
use Rattle.subsumption.proofs.deciding.have_places.Given as goal

abbrev pub invariant-loop : goal.invariant-loop
invariant-loop l = l.taken.items ≡ replicate l.counter false
