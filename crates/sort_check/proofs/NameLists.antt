-- Names as the texts of a set's keys.
use Rattle.std.proofs.Common.{◌≡◌, ℕ, Bool, true, false, ◌||◌, List, [], ◌∷◌, ◌++◌, map, nat_eq, if◌then◌else◌, refl, ◌∙◌, ap}
use Rattle.std.specs.List.{list_any}
use Rattle.std.specs.Cmp.Lexicographic.{pointwise}
use Rattle.std.proofs.lemmas.List.{map-append}
use Rattle.sort_check.specs.Symbols.{is_among, with_name}

module _ {K : Type 0} (text : K → List ℕ) (name : List ℕ) where
  pub among : (ks : List K) → list_any (λ k. pointwise nat_eq name (text k)) ks ≡ is_among name (map text ks)
  among [] = refl
  among (k ∷ ks) = ap (λ b. pointwise nat_eq name (text k) || b) (among ks)

  chosen : (b : Bool) (ks : List K) (k : K) → text k ≡ name → map text (if b then ks else ks ++ k ∷ []) ≡ (if b then map text ks else map text ks ++ name ∷ [])
  chosen true ks k e = refl
  chosen false ks k e = map-append text ks (k ∷ []) ∙ ap (λ (n : List ℕ). map text ks ++ n ∷ []) e

  pub added : (ks new : List K) (k : K) (old : List (List ℕ)) → new ≡ (if list_any (λ y. pointwise nat_eq (text k) (text y)) ks then ks else ks ++ k ∷ []) → text k ≡ name → map text ks ≡ old → map text new ≡ with_name name old
  added ks new k old e is was =
      ap (map text) e
      ∙ chosen (list_any (λ y. pointwise nat_eq (text k) (text y)) ks) ks k is
      ∙ ap (λ (n : List ℕ). if list_any (λ y. pointwise nat_eq n (text y)) ks then map text ks else map text ks ++ name ∷ []) is
      ∙ ap (λ b. if b then map text ks else map text ks ++ name ∷ []) (among ks)
      ∙ ap (λ (names : List (List ℕ)). with_name name names) was
