use Rattle.std.proofs.Common.{◌≡◌, replicate, None}
use Rattle.subsumption.proofs.bindings.no_bindings.Given as goal

abbrev pub invariant-loop : goal.invariant-loop
invariant-loop l = l.images.items ≡ replicate l.counter None
