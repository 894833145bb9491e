-- What holds of a list holds of each member.
use Rattle.std.proofs.Common.{ℕ, ◌+◌, ◌≡◌, ◌<◌, ◌&&◌, Bool, true, List, [], ◌∷◌, map, arith, zero, suc}
use Rattle.std.specs.List.{list_all, All as Each}
use Rattle.fof_terms.specs.Lift.{greatest}
use Rattle.fof_terms.proofs.LiftingLaws.{both}

pub below_sum : {X : Type 0} (f : X → ℕ) (n b : ℕ) (xs : List X) → n + greatest (map f xs) < b → Each (λ x. n + f x < b) xs
below_sum f n b [] h k d lt = absurd (omega arith)
below_sum f n b (x ∷ xs) h zero d lt = omega arith
below_sum f n b (x ∷ xs) h (suc k) d lt =
    let rest : n + greatest (map f xs) < b = omega arith in
    below_sum f n b xs rest k d (omega arith)

pub each_passes : {X : Type 0} (f : X → Bool) (xs : List X) → list_all f xs ≡ true → Each (λ x. f x ≡ true) xs
each_passes f [] e k d lt = absurd (omega arith)
each_passes f (x ∷ xs) e zero d lt = (both (f x) (list_all f xs) e).0
each_passes f (x ∷ xs) e (suc k) d lt = each_passes f xs (both (f x) (list_all f xs) e).1 k d (omega arith)

-- of both sides
pub left_passes : (a b : Bool) → a && b ≡ true → a ≡ true
left_passes a b e = (both a b e).0

pub right_passes : (a b : Bool) → a && b ≡ true → b ≡ true
right_passes a b e = (both a b e).1
