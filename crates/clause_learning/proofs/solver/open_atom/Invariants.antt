use Rattle.std.proofs.Common.{◌≡◌, ◌<◌, ℕ, None}
use Rattle.clause_learning.specs.code.Trails.{value_at}
use Rattle.clause_learning.proofs.solver.open_atom.Given as goal

abbrev pub invariant-loop-atom : goal.invariant-loop-atom
invariant-loop-atom l = (k : ℕ) → k < l.atom → value_at l.values k ≡ None → ⊥
