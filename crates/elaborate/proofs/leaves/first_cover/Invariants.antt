use Rattle.std.proofs.Common.{ℕ, ◌<◌}
use Rattle.elaborate.specs.code.Proofs.{CoversAlone}
use Rattle.elaborate.proofs.leaves.first_cover.Given as goal

abbrev pub invariant-loop-at : goal.invariant-loop-at
invariant-loop-at l = (j : ℕ) → j < l.at → CoversAlone l.signature l.candidates l.line j → ⊥
