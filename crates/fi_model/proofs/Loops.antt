-- Loops that take each member of a list in turn.
use Rattle.std.proofs.Common.{◌≡◌, ℕ, zero, suc, ◌+◌, ◌<◌, List, [], ◌∷◌, ◌++◌, length, map, take, drop, get_or, Option, Some, None, refl, sym, ◌∙◌, ap, drop-cons, add-one, arith}
use Rattle.std.specs.Prelude.{slice_get}
use Rattle.std.specs.Option.{option_map}
use Rattle.std.proofs.lemmas.Option.{slice_get-map, slice_get-get_or}
use Rattle.fi_model.specs.Sentences.{all_there}

-- the member at a place comes first of the rest
pub at_member : {X : Type 0} (xs : List X) (i : ℕ) (x : X) → i < length xs → x ≡ get_or xs i x → drop i xs ≡ x ∷ drop (i + 1) xs
at_member xs i x lt is = rw add-one (drop-cons xs i x lt ∙ ap (λ y. y ∷ drop (suc i) xs) (sym is))

pub some_of : {X : Type 0} (y : X) (xs : Option (List X)) (ys : List X) → option_map (λ zs. y ∷ zs) xs ≡ Some ys → (zs : List X) × (xs ≡ Some zs) × (ys ≡ y ∷ zs)
some_of y None ys e = cc
some_of y (Some zs) ys e = (zs, refl, cc)

all_there_snoc : {X : Type 0} (xs : List (Option X)) (ys : List X) (y : X) → all_there xs ≡ Some ys → all_there (xs ++ Some y ∷ []) ≡ Some (ys ++ y ∷ [])
all_there_snoc [] ys y e = let same : ys ≡ [] = cc in rw same refl
all_there_snoc (None ∷ xs) ys y e = cc
all_there_snoc (Some x ∷ xs) ys y e =
    let inner = some_of x (all_there xs) ys e in
    rw (inner.2, all_there_snoc xs inner.0 y inner.1) refl

take_snoc : {X Y : Type 0} (f : X → Y) (xs : List X) (i : ℕ) (d : X) → i < length xs → map f (take (i + 1) xs) ≡ map f (take i xs) ++ f (get_or xs i d) ∷ []
take_snoc f [] i d h = absurd (omega arith)
take_snoc f (x ∷ xs) zero d h = refl
take_snoc f (x ∷ xs) (suc i) d h =
    let rest : map f (take (i + 1) xs) ≡ map f (take i xs) ++ f (get_or xs i d) ∷ [] = take_snoc f xs i d (omega arith) in
    let rest' : map f (take (suc i) xs) ≡ map f (take i xs) ++ f (get_or xs i d) ∷ [] = rw add-one at rest in
    rw add-one (ap (λ ys. f x ∷ ys) rest')

-- as far as a loop has come
pub more_there : {X Y : Type 0} (f : X → Option Y) (xs : List X) (i : ℕ) (x : X) (y : Y) (ys : List Y) → i < length xs → x ≡ get_or xs i x → f x ≡ Some y → all_there (map f (take i xs)) ≡ Some ys
    → all_there (map f (take (i + 1) xs)) ≡ Some (ys ++ y ∷ [])
more_there f xs i x y ys h is e before =
    let last : f (get_or xs i x) ≡ Some y = ap f (sym is) ∙ e in
    rw (take_snoc f xs i x h, last) (all_there_snoc (map f (take i xs)) ys y before)

none_there : {X : Type 0} (xs : List (Option X)) (i : ℕ) → slice_get xs i ≡ Some None → all_there xs ≡ None
none_there [] i e = cc
none_there (None ∷ xs) i e = refl
none_there (Some x ∷ xs) zero e = cc
none_there (Some x ∷ xs) (suc i) e = rw (none_there xs i e) refl

-- where one is not there
pub not_all_there : {X Y : Type 0} (f : X → Option Y) (xs : List X) (i : ℕ) (x : X) → i < length xs → x ≡ get_or xs i x → f x ≡ None → all_there (map f xs) ≡ None
not_all_there f xs i x h is e =
    let last : f (get_or xs i x) ≡ None = ap f (sym is) ∙ e in
    none_there (map f xs) i (slice_get-map f xs i ∙ ap (option_map f) (slice_get-get_or xs i x h) ∙ ap Some last)
