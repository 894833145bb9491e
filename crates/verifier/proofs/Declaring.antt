-- How the new parts of a signature are declared one by one.
use Rattle.std.proofs.Common.{◌≡◌, ℕ, suc, ◌+◌, ◌<◌, ◌≤◌, List, [], ◌∷◌, ◌++◌, length, map, drop, Some, None, slice_get, sym, ◌∙◌, ap, append_assoc, drop-cons, add-one, arith}
use Rattle.std.proofs.lemmas.List.{append-nil, drop_all}
use Rattle.std.proofs.lemmas.Option.{slice_get_within, get_or_from_slice_get, slice_get-get_or}
use Rattle.kernel.specs.declared.entry.Entry.{Entry}

-- what is there, and what is still to come, make up the whole
abbrev pub Grows : {X : Type 0} → (X → Entry) → List Entry → List Entry → List X → List X → Type 0
Grows declares before now all rest = now ++ map declares rest ≡ before ++ map declares all

first_of : {X : Type 0} (xs : List X) (i : ℕ) (x : X) → Some x ≡ slice_get xs i → drop i xs ≡ x ∷ drop (suc i) xs
first_of xs i x at = drop-cons xs i x (slice_get_within xs i x (sym at)) ∙ ap (λ (y : _). y ∷ drop (suc i) xs) (get_or_from_slice_get xs i x x (sym at))

pub grows_more : {X : Type 0} (declares : X → Entry) (before now longer : List Entry) (all xs : List X) (i : ℕ) (x : X) → Some x ≡ slice_get xs i → longer ≡ now ++ declares x ∷ [] → Grows declares before now all (drop i xs) → Grows declares before longer all (drop (i + 1) xs)
grows_more declares before now longer all xs i x at added grows =
    rw add-one (ap (λ (es : List Entry). es ++ map declares (drop (suc i) xs)) added
    ∙ append_assoc now (declares x ∷ []) (map declares (drop (suc i) xs))
    ∙ ap (λ (ys : _). now ++ map declares ys) (sym (first_of xs i x at))
    ∙ grows)

pub grown : {X : Type 0} (declares : X → Entry) (before now : List Entry) (all xs : List X) (i : ℕ) → length xs ≤ i → Grows declares before now all (drop i xs) → now ≡ before ++ map declares all
grown declares before now all xs i done grows =
    sym (append-nil now) ∙ ap (λ (ys : _). now ++ map declares ys) (sym (drop_all i xs done)) ∙ grows

pub is_there : {X : Type 0} (xs : List X) (i : ℕ) → i < length xs → None ≡ slice_get xs i → ⊥
is_there xs i lt none = absurd (no_value xs i lt none)
  where
    no_value : {X : Type 0} (xs : List X) (i : ℕ) → i < length xs → None ≡ slice_get xs i → ⊥
    no_value [] i lt none = absurd (omega arith)
    no_value (x ∷ xs) i lt none = let e = none ∙ slice_get-get_or (x ∷ xs) i x lt in cc
