use Rattle.std.proofs.Common.{◌≡◌, [], replicate}
use Rattle.fi_model.proofs.domains.empty_slots.Given as goal

abbrev pub invariant-loop : goal.invariant-loop
invariant-loop l = l.slots ≡ replicate l.counter []
