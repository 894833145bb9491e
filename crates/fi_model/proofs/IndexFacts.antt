-- The entries of an index, and the names of elements, as the texts of a table's keys.
use Rattle.std.proofs.Common.{◌≡◌, ℕ, Bool, true, false, ◌+◌, ◌||◌, not, List, [], ◌∷◌, map, nat_eq, Option, Some, None, if◌then◌else◌, refl, ap}
use Rattle.std.specs.Prelude.{is_some, position}
use Rattle.std.specs.Bool.{OnTrue}
use Rattle.std.specs.List.{list_any, position_or_len}
use Rattle.std.specs.Map.{lookup}
use Rattle.std.specs.Cmp.Lexicographic.{pointwise}
use Rattle.std.proofs.lemmas.List.{length-map}
use Rattle.fi_model.specs.code.Adding.{under, told}

module _ {K : Type 0} (text : K → List ℕ) where
  place_is : (key : List ℕ) (ks : List K) → position_or_len (λ k. pointwise nat_eq key (text k)) ks ≡ position_or_len (pointwise nat_eq key) (map text ks)
  place_is key [] = refl
  place_is key (k ∷ ks) = ap (λ (n : ℕ). if not (pointwise nat_eq key (text k)) then 1 + n else 0) (place_is key ks)

  pub position_is : (key : List ℕ) (ks : List K) → position (λ k. pointwise nat_eq key (text k)) ks ≡ position (pointwise nat_eq key) (map text ks)
  position_is key ks = rw (place_is key ks, length-map ks text) refl

  pub any_is : (key : List ℕ) (ks : List K) → list_any (λ k. pointwise nat_eq key (text k)) ks ≡ list_any (pointwise nat_eq key) (map text ks)
  any_is key [] = refl
  any_is key (k ∷ ks) = ap (λ b. pointwise nat_eq key (text k) || b) (any_is key ks)

  pub told_is : (key : List ℕ) (es : List (K × ℕ)) → lookup (λ k. pointwise nat_eq key (text k)) es ≡ told (map (λ e. (text e.0, e.1)) es) key
  told_is key [] = refl
  told_is key (e ∷ es) = ap (λ (o : Option ℕ). if pointwise nat_eq key (text e.0) then Some e.1 else o) (told_is key es)

  pub some_is : (key : List ℕ) (es : List (K × ℕ)) → is_some (lookup (λ k. pointwise nat_eq key (text k)) es) ≡ list_any (under key) (map (λ e. (text e.0, e.1)) es)
  some_is key [] = refl
  some_is key (e ∷ es) = by (pointwise nat_eq key (text e.0)) (some_is key es)
    where
      by : (b : Bool) → is_some (lookup (λ k. pointwise nat_eq key (text k)) es) ≡ list_any (under key) (map (λ e. (text e.0, e.1)) es)
          → is_some (if b then Some e.1 else lookup (λ k. pointwise nat_eq key (text k)) es) ≡ (b || list_any (under key) (map (λ e. (text e.0, e.1)) es))
      by true rest = refl
      by false rest = rest

pub flip : (a b : Bool) → a ≡ not b → b ≡ not a
flip true true e = cc
flip true false e = refl
flip false true e = refl
flip false false e = cc

pub none_of : {X : Type 0} (o : Option X) → is_some o ≡ false → o ≡ None
none_of None e = refl
none_of (Some x) e = cc

pub on_true : (b : Bool) {P : Type 0} → (b ≡ true → P) → OnTrue b P
on_true true f = f refl
on_true false f = tt

pub of_true : (b : Bool) {P : Type 0} → b ≡ true → OnTrue b P → P
of_true true e p = p
of_true false e p = cc
