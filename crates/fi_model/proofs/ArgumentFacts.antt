-- Elements that stand as arguments.
use Rattle.std.proofs.Common.{◌≡◌, ℕ, zero, suc, ◌+◌, ◌<◌, true, List, [], ◌∷◌, length, map, take, get_or, Option, Some, None, refl, ◌∙◌, ap, arith}
use Rattle.std.specs.Prelude.{is_some, slice_get}
use Rattle.std.specs.Option.{option_map, option_and_then}
use Rattle.std.proofs.lemmas.Option.{slice_get-map}
use Rattle.std.proofs.lemmas.List.{length-map}
use Rattle.tptp_base.specs.declared.surface.STerm.{STerm}
use Rattle.fi_model.specs.Sentences.{all_there, or_none, element, elements}
use Rattle.fi_model.proofs.Loops.{some_of, more_there}

-- what is there
pub there : {X : Type 0} (o : Option (List X)) → is_some o ≡ true → o ≡ Some (or_none o)
there None h = cc
there (Some xs) h = refl

-- as far as a loop has come
pub one_more_there : {X Y : Type 0} (f : X → Option Y) (xs : List X) (i : ℕ) (x : X) (y : Y) → i < length xs → x ≡ get_or xs i x → f x ≡ Some y → is_some (all_there (map f (take i xs))) ≡ true
    → is_some (all_there (map f (take (i + 1) xs))) ≡ true
one_more_there f xs i x y lt is e before =
    let found = all_there (map f (take i xs)) in
    rw (more_there f xs i x y (or_none found) lt is e (there found before)) refl

-- as many as may be there
counted : {Y : Type 0} (os : List (Option Y)) (ys : List Y) → all_there os ≡ Some ys → length ys ≡ length os
counted [] ys e = let none : ys ≡ [] = cc in rw none refl
counted (None ∷ os) ys e = cc
counted (Some y ∷ os) ys e =
    let inner = some_of y (all_there os) ys e in
    let rest : length inner.0 ≡ length os = counted os inner.0 inner.1 in
    let whole : length (y ∷ inner.0) ≡ length (Some y ∷ os) = omega (arith, rest) in
    rw inner.2 whole

-- what stands in an option
abbrev inner_one : {Y : Type 0} → Option (Option Y) → Option Y
inner_one None = None
inner_one (Some o) = o

there_at : {Y : Type 0} (os : List (Option Y)) (ys : List Y) (i : ℕ) → all_there os ≡ Some ys → slice_get ys i ≡ inner_one (slice_get os i)
there_at [] ys i e = let none : ys ≡ [] = cc in rw none refl
there_at (None ∷ os) ys i e = cc
there_at (Some y ∷ os) ys zero e = let inner = some_of y (all_there os) ys e in rw inner.2 refl
there_at (Some y ∷ os) ys (suc i) e = let inner = some_of y (all_there os) ys e in rw inner.2 (there_at os inner.0 i inner.1)

inner_map : {X Y : Type 0} (f : X → Option Y) (o : Option X) → inner_one (option_map f o) ≡ option_and_then f o
inner_map f None = refl
inner_map f (Some x) = refl

member_of : {X Y : Type 0} (f : X → Option Y) (xs : List X) (ys : List Y) (i : ℕ) → all_there (map f xs) ≡ Some ys → slice_get ys i ≡ option_and_then f (slice_get xs i)
member_of f xs ys i e = there_at (map f xs) ys i e ∙ ap inner_one (slice_get-map f xs i) ∙ inner_map f (slice_get xs i)

module _ (terms : List STerm) (are : is_some (elements terms) ≡ true) where
  pub argument_count : length (or_none (elements terms)) ≡ length terms
  argument_count = counted (map element terms) (or_none (elements terms)) (there (elements terms) are) ∙ length-map terms element

  pub argument_at : (i : ℕ) → slice_get (or_none (elements terms)) i ≡ option_and_then element (slice_get terms i)
  argument_at i = member_of element terms (or_none (elements terms)) i (there (elements terms) are)
