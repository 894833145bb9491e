-- How the variables of several parts are noted one by one.
use Rattle.std.proofs.Common.{◌≡◌, ℕ, ◌+◌, ◌<◌, ◌≤◌, List, length, drop, get_or, map, refl, sym, ◌∙◌, ap}
use Rattle.std.proofs.lemmas.List.{drop_all}
use Rattle.sort_check.specs.declared.scope.Variable.{Variable}
use Rattle.sort_check.specs.code.Variables.{in_turn}
use Rattle.sort_check.proofs.Loops.{at_member}

module _ {X : Type 0} (f : X → List Variable → List Variable) where
  pub record NotedSoFar (xs : List X) (start : List Variable) (i : ℕ) (found : List Variable) : Type 0 where
    pub so_far : in_turn (map f xs) start ≡ in_turn (map f (drop i xs)) found
    pub few : length start ≤ 250 → length found ≤ 250

  pub noted_start : (xs : List X) (start : List Variable) → NotedSoFar xs start 0 start
  noted_start xs start = record { so_far = refl; few = λ h. h }

  pub noted_turn : (xs : List X) (start : List Variable) (i : ℕ) (found more : List Variable) (x : X) → i < length xs → x ≡ get_or xs i x → NotedSoFar xs start i found → more ≡ f x found → (length found ≤ 250 → length more ≤ 250)
      → NotedSoFar xs start (i + 1) more
  noted_turn xs start i found more x lt is before e few = record {
    so_far = before.so_far
        ∙ ap (λ (ys : List X). in_turn (map f ys) found) (at_member xs i x lt is)
        ∙ ap (λ (vs : List Variable). in_turn (map f (drop (i + 1) xs)) vs) (sym e);
    few = λ h. few (before.few h);
  }

  pub noted_end : (xs : List X) (start : List Variable) (i : ℕ) (found : List Variable) → length xs ≤ i → NotedSoFar xs start i found → found ≡ in_turn (map f xs) start
  noted_end xs start i found le before = sym (before.so_far ∙ ap (λ (ys : List X). in_turn (map f ys) found) (drop_all i xs le))
