use Rattle.std.proofs.Common.{ℕ, ◌≡◌, ◌<◌, [], ◌∷◌, length}
use Rattle.unify_terms.specs.code.Classes.{class_of}
use Rattle.unify_terms.specs.code.Partition.{members_of}
use Rattle.unify_terms.proofs.partition.each_alone.Given as goal

abbrev pub invariant-loop-i : goal.invariant-loop-i
invariant-loop-i l =
    (length l.labels.items ≡ l.i) × (length l.heads.items ≡ l.i) × (length l.members.items ≡ l.i) × ((k : ℕ) → k < l.i → class_of l.labels.items k ≡ k) × ((k : ℕ) → k < l.i → class_of l.heads.items k ≡ k)
    × ((k : ℕ) → k < l.i → members_of l.members.items k ≡ k ∷ [])
