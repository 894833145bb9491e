-- The greatest of a list.
use Rattle.std.proofs.Common.{ℕ, ◌+◌, ◌-◌, ◌<◌, List, [], ◌∷◌, map, arith, zero, suc}
use Rattle.std.specs.List.{All as Each}
use Rattle.fof_terms.specs.Lift.{greatest}

-- each number of the list is below what its greatest is below
pub below_greatest : {X : Type 0} (f : X → ℕ) (b : ℕ) (xs : List X) → greatest (map f xs) < b → Each (λ x. f x < b) xs
below_greatest f b [] h k d lt = absurd (omega arith)
below_greatest f b (x ∷ xs) h zero d lt = omega arith
below_greatest f b (x ∷ xs) h (suc k) d lt =
    let rest : greatest (map f xs) < b = omega arith in
    below_greatest f b xs rest k d (omega arith)

-- the same beside another number
pub below_sum : {X : Type 0} (f : X → ℕ) (n b : ℕ) (xs : List X) → n + greatest (map f xs) < b → Each (λ x. n + f x < b) xs
below_sum f n b xs h k d lt = omega (arith, below_greatest f (b - n) xs (omega arith) k d lt)

-- beside two
pub below_sums : {X : Type 0} (f : X → ℕ) (n m b : ℕ) (xs : List X) → n + greatest (map f xs) + m < b → Each (λ x. n + f x + m < b) xs
below_sums f n m b xs h k d lt = omega (arith, below_greatest f (b - n - m) xs (omega arith) k d lt)
