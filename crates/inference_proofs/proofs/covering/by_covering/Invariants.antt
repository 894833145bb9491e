use Rattle.std.proofs.Common.{ℕ, ◌<◌}
use Rattle.inference_proofs.proofs.Covered.{CoversAt}
use Rattle.inference_proofs.proofs.covering.by_covering.Given as goal

abbrev pub invariant-loop-at : goal.invariant-loop-at
invariant-loop-at l = (j : ℕ) → j < l.at → CoversAt l.signature l.parents l.opened.clause j → ⊥
