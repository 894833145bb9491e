-- Members of lists from which one is taken or in which one is changed.
use Rattle.std.specs.Prelude.{ℕ, ◌+◌, ◌<◌, ◌≡◌, ◌≢◌, ◌⊎◌, List, [], ◌∷◌, ◌++◌, length, map, remove, Some, slice_get, slice_set, refl}
use Rattle.std.specs.Option.{option_map}
use Rattle.std.proofs.Common.{ap, ◌∙◌, arith, zero, suc, inl, inr}
use Rattle.std.proofs.lemmas.Option.{slice_get-map}

-- the list has it at some place
abbrev pub Has : {X : Type 0} → List X → X → Type 0
Has xs x = (n : ℕ) × (slice_get xs n ≡ Some x)

further : {X : Type 0} (y : X) (xs : List X) (x : X) → Has xs x → Has (y ∷ xs) x
further y xs x h = (suc h.0, h.1)

has_at : {X : Type 0} (xs ys : List X) (x : X) (n : ℕ) → slice_get xs n ≡ Some x → Has (xs ++ ys) x
has_at [] ys x n e = cc
has_at (y ∷ xs) ys x zero e = (0, e)
has_at (y ∷ xs) ys x (suc n) e = further y (xs ++ ys) x (has_at xs ys x n e)

pub has_before : {X : Type 0} (xs ys : List X) (x : X) → Has xs x → Has (xs ++ ys) x
has_before xs ys x h = has_at xs ys x h.0 h.1

pub has_behind : {X : Type 0} (xs ys : List X) (x : X) → Has ys x → Has (xs ++ ys) x
has_behind [] ys x h = h
has_behind (y ∷ xs) ys x h = further y (xs ++ ys) x (has_behind xs ys x h)

-- in the one part or in the other
pub has_split : {X : Type 0} (xs ys : List X) (x : X) (n : ℕ) → slice_get (xs ++ ys) n ≡ Some x → Has xs x ⊎ Has ys x
has_split [] ys x n e = inr (n, e)
has_split (y ∷ xs) ys x zero e = inl (0, e)
has_split (y ∷ xs) ys x (suc n) e = elim (has_split xs ys x n e) [
  | inl h ↦ inl (further y xs x h)
  | inr h ↦ inr h
]

pub has_image : {X Y : Type 0} (f : X → Y) (xs : List X) (x : X) → Has xs x → Has (map f xs) (f x)
has_image f xs x h = (h.0, slice_get-map f xs h.0 ∙ ap (option_map f) h.1)

-- what stands among the images is the image of what stands there
pub image_from : {X Y : Type 0} (f : X → Y) (xs : List X) (y : Y) (n : ℕ) → slice_get (map f xs) n ≡ Some y → (x : X) × (slice_get xs n ≡ Some x) × (f x ≡ y)
image_from f [] y n e = cc
image_from f (x ∷ xs) y zero e = (x, refl, cc)
image_from f (x ∷ xs) y (suc n) e = image_from f xs y n e

-- a member is the one that is taken away, or it stays
pub kept_or : {X : Type 0} (xs : List X) (i : ℕ) (x : X) → slice_get xs i ≡ Some x → (n : ℕ) (y : X) → slice_get xs n ≡ Some y → (y ≡ x) ⊎ Has (remove xs i) y
kept_or [] i x e n y f = cc
kept_or (z ∷ xs) zero x e zero y f = inl cc
kept_or (z ∷ xs) zero x e (suc n) y f = inr (n, f)
kept_or (z ∷ xs) (suc i) x e zero y f = inr (0, f)
kept_or (z ∷ xs) (suc i) x e (suc n) y f = elim (kept_or xs i x e n y f) [
  | inl same ↦ inl same
  | inr h ↦ inr (further z (remove xs i) y h)
]

-- a member of another place stays
pub kept_other : {X : Type 0} (xs : List X) (i n : ℕ) (y : X) → i ≢ n → slice_get xs n ≡ Some y → Has (remove xs i) y
kept_other [] i n y apart f = cc
kept_other (z ∷ xs) zero zero y apart f = absurd (apart refl)
kept_other (z ∷ xs) zero (suc n) y apart f = (n, f)
kept_other (z ∷ xs) (suc i) zero y apart f = (0, f)
kept_other (z ∷ xs) (suc i) (suc n) y apart f = further z (remove xs i) y (kept_other xs i n y (λ same. apart (ap (λ k. suc k) same)) f)

-- a member is the one that was put there, or it stood there before
pub changed_or : {X : Type 0} (xs : List X) (i : ℕ) (x : X) (n : ℕ) (y : X) → slice_get (slice_set xs i x) n ≡ Some y → (y ≡ x) ⊎ Has (remove xs i) y
changed_or [] i x n y f = cc
changed_or (z ∷ xs) zero x zero y f = inl cc
changed_or (z ∷ xs) zero x (suc n) y f = inr (n, f)
changed_or (z ∷ xs) (suc i) x zero y f = inr (0, f)
changed_or (z ∷ xs) (suc i) x (suc n) y f = elim (changed_or xs i x n y f) [
  | inl same ↦ inl same
  | inr h ↦ inr (further z (remove xs i) y h)
]

-- places in two lists that are joined
pub get_first : {X : Type 0} (xs ys : List X) (k : ℕ) (x : X) → slice_get xs k ≡ Some x → slice_get (xs ++ ys) k ≡ Some x
get_first [] ys k x e = cc
get_first (y ∷ xs) ys zero x e = e
get_first (y ∷ xs) ys (suc k) x e = get_first xs ys k x e

pub get_second : {X : Type 0} (xs ys : List X) (k : ℕ) → slice_get (xs ++ ys) (k + length xs) ≡ slice_get ys k
get_second [] ys k = ap (slice_get ys) (omega arith)
get_second (y ∷ xs) ys k = ap (slice_get (y ∷ (xs ++ ys))) (step k (length xs)) ∙ get_second xs ys k where
  step : (k n : ℕ) → k + suc n ≡ suc (k + n)
  step k n = omega arith

pub get_below : {X : Type 0} (xs ys : List X) (k : ℕ) (x : X) → k < length xs → slice_get (xs ++ ys) k ≡ Some x → slice_get xs k ≡ Some x
get_below [] ys k x h e = absurd (omega arith)
get_below (y ∷ xs) ys zero x h e = e
get_below (y ∷ xs) ys (suc k) x h e = get_below xs ys k x (omega arith) e
