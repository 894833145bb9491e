-- What holds of each element of a list.
use Rattle.std.specs.Prelude.{ℕ, suc, ◌≡◌, ◌+◌, Bool, true, false, if◌then◌else◌, List, [], ◌∷◌, Some, slice_get, refl}
use Rattle.std.specs.List.{AllByRecursion}
use Rattle.std.proofs.Common.{subst, arith}
use Rattle.step_search.proofs.ClauseSuits.{each_of_both}
use Rattle.given_parts.specs.Chosen.{chosen_from}

-- what holds at each place
pub each_of : {X : Type 0} (P : X → Type 0) (xs : List X) → ((k : ℕ) (x : X) → slice_get xs k ≡ Some x → P x) → AllByRecursion P xs
each_of P [] at = tt
each_of P (x ∷ xs) at = (at 0 x refl, each_of P xs (λ k y there. at (suc k) y there))

-- of what marked elements give
pub each_chosen : {X Y : Type 0} (P : Y → Type 0) (give : ℕ → X → List Y) (k : ℕ) (marks : List Bool) (xs : List X) → ((i : ℕ) (x : X) → slice_get xs i ≡ Some x → AllByRecursion P (give (k + i) x)) → AllByRecursion P (chosen_from k give marks xs)
each_chosen P give k [] xs each = tt
each_chosen P give k (b ∷ marks) [] each = tt
each_chosen P give k (b ∷ marks) (x ∷ xs) each =
    each_of_both P (if b then give k x else []) (chosen_from (k + 1) give marks xs) (here b)
    (each_chosen P give (k + 1) marks xs (λ i y at. let number : k + suc i ≡ k + 1 + i = omega arith in subst (λ (n : ℕ). AllByRecursion P (give n y)) number (each (suc i) y at)))
  where
    here : (c : Bool) → AllByRecursion P (if c then give k x else [])
    here true = let number : k + 0 ≡ k = omega arith in subst (λ (n : ℕ). AllByRecursion P (give n x)) number (each 0 x refl)
    here false = tt
