-- Places in lists that are joined or mapped, and values that may be there.
use Rattle.std.specs.Prelude.{ℕ, ◌≡◌, ◌+◌, List, [], ◌∷◌, ◌++◌, map, reverse, Option, Some, None, slice_get, refl}
use Rattle.std.specs.Option.{option_map}
use Rattle.std.proofs.Common.{ap, sym, ◌∙◌, zero, suc}
use Rattle.std.proofs.lemmas.List.{reverse-append}
use Rattle.clause_form.specs.Paths.{one_more}

pub before : {X : Type 0} (xs ys : List X) (m : ℕ) (y : X) → slice_get xs m ≡ Some y → slice_get (xs ++ ys) m ≡ Some y
before [] ys m y e = cc
before (x ∷ xs) ys zero y e = e
before (x ∷ xs) ys (suc m) y e = before xs ys m y e

pub behind : {X : Type 0} (xs ys : List X) (m : ℕ) (y : X) → slice_get ys m ≡ Some y → (n : ℕ) × (slice_get (xs ++ ys) n ≡ Some y)
behind [] ys m y e = (m, e)
behind (x ∷ xs) ys m y e = let rest = behind xs ys m y e in (suc rest.0, rest.1)

pub nothing_there : {X : Type 0} (o : Option X) (x : X) → o ≡ None → o ≡ Some x → ⊥
nothing_there o x e f = let g : None ≡ Some x = sym e ∙ f in cc

pub mapped : {X Y : Type 0} (f : X → Y) (o : Option X) (y : Y) → option_map f o ≡ Some y → (x : X) × (o ≡ Some x) × (f x ≡ y)
mapped f None y e = cc
mapped f (Some x) y e = (x, refl, cc)

pub more_parts : {X : Type 0} (o : Option X) (r : Option (List X)) (zs : List X) → one_more o r ≡ Some zs → (x : X) × (xs : List X) × (o ≡ Some x) × (r ≡ Some xs) × (x ∷ xs ≡ zs)
more_parts None r zs e = cc
more_parts (Some x) None zs e = cc
more_parts (Some x) (Some xs) zs e = (x, xs, refl, refl, cc)

pub get_lifted : {X Y : Type 0} (f : X → Y) (xs : List X) (i : ℕ) (x : X) → slice_get xs i ≡ Some x → slice_get (map f xs) i ≡ Some (f x)
get_lifted f [] i x e = cc
get_lifted f (y ∷ xs) zero x e = let same : y ≡ x = cc in ap (λ z. Some (f z)) same
get_lifted f (y ∷ xs) (suc i) x e = get_lifted f xs i x e

pub get_of_map : {X Y : Type 0} (f : X → Y) (xs : List X) (i : ℕ) (y : Y) → slice_get (map f xs) i ≡ Some y → (x : X) × (slice_get xs i ≡ Some x) × (f x ≡ y)
get_of_map f [] i y e = cc
get_of_map f (x ∷ xs) zero y e = (x, refl, cc)
get_of_map f (x ∷ xs) (suc i) y e = get_of_map f xs i y e

-- the first of a list is the last of its reversal
pub reverse_cons : {X : Type 0} (x : X) (xs : List X) → reverse (x ∷ xs) ≡ reverse xs ++ x ∷ []
reverse_cons x xs = reverse-append (x ∷ []) xs
