-- Terms of given sorts, and lists of images that have given terms from a place on.
use Rattle.std.specs.Prelude.{ℕ, ◌≡◌, ◌+◌, List, [], ◌∷◌, ◌++◌, length, reverse, get_or, Some, slice_get, refl}
use Rattle.std.specs.List.{AllByRecursion}
use Rattle.std.proofs.Common.{ap, sym, ◌∙◌, arith, zero, suc, append_assoc, length-append}
use Rattle.std.proofs.lemmas.List.{reverse-append}
use Rattle.fof_terms.specs.Vocabulary.{Vocabulary}
use Rattle.fof_terms.specs.declared.term.Term.{Term, Var}
use Rattle.fof_terms.specs.Sorts.{sort_of_term}
use Rattle.unify_terms.specs.Substitution.{image_at}

-- the list has these elements from a place on
pub record Has {X : Type 0} (images : List X) (n : ℕ) (ys : List X) : Type 0 where
  pub front : List X
  pub back : List X
  pub is : images ≡ front ++ (ys ++ back)
  pub place : n ≡ length front

image_there : (front : List Term) (y : Term) (rest : List Term) (d : Term) (n : ℕ) → n ≡ length front → get_or (front ++ (y ∷ rest)) n d ≡ y
image_there [] y rest d zero e = refl
image_there [] y rest d (suc n) e = absurd (omega (arith, e))
image_there (x ∷ front) y rest d zero e = absurd (omega (arith, e))
image_there (x ∷ front) y rest d (suc n) e = image_there front y rest d n (omega (arith, e))

pub first_image : (images : List Term) (n : ℕ) (y : Term) (ys : List Term) → Has images n (y ∷ ys) → image_at images n ≡ y
first_image images n y ys h = ap (λ is. get_or is n (Var n)) h.is ∙ image_there h.front y (ys ++ h.back) (Var n) n h.place

sort_there : (front : List ℕ) (s : ℕ) (rest : List ℕ) (n : ℕ) → n ≡ length front → slice_get (front ++ (s ∷ rest)) n ≡ Some s
sort_there [] s rest zero e = refl
sort_there [] s rest (suc n) e = absurd (omega (arith, e))
sort_there (x ∷ front) s rest zero e = absurd (omega (arith, e))
sort_there (x ∷ front) s rest (suc n) e = sort_there front s rest n (omega (arith, e))

pub first_sort : (sorts : List ℕ) (n s : ℕ) (ss : List ℕ) → Has sorts n (s ∷ ss) → slice_get sorts n ≡ Some s
first_sort sorts n s ss h = ap (λ (is : List ℕ). slice_get is n) h.is ∙ sort_there h.front s (ss ++ h.back) n h.place

pub after_first : {X : Type 0} (images : List X) (n : ℕ) (y : X) (ys : List X) → Has images n (y ∷ ys) → Has images (suc n) ys
after_first images n y ys h = record {
  front = h.front ++ y ∷ [];
  back = h.back;
  is = h.is ∙ sym (append_assoc h.front (y ∷ []) (ys ++ h.back));
  place = let e = length-append h.front (y ∷ []) in omega (arith, h.place, e);
}

pub has_first : {X : Type 0} (images : List X) (n : ℕ) (xs ys : List X) → Has images n (xs ++ ys) → Has images n xs
has_first images n xs ys h = record {
  front = h.front;
  back = ys ++ h.back;
  is = h.is ∙ ap (λ zs. h.front ++ zs) (append_assoc xs ys h.back);
  place = h.place;
}

pub has_second : {X : Type 0} (images : List X) (n : ℕ) (xs ys : List X) → Has images n (xs ++ ys) → Has images (n + length xs) ys
has_second images n xs ys h = record {
  front = h.front ++ xs;
  back = h.back;
  is = h.is ∙ ap (λ zs. h.front ++ zs) (append_assoc xs ys h.back) ∙ sym (append_assoc h.front xs (ys ++ h.back));
  place = let e = length-append h.front xs in omega (arith, h.place, e);
}

module _ (v : Vocabulary) (target : List ℕ) where
  -- the terms have these sorts
  abbrev pub Typed : List Term → List ℕ → Type 0
  Typed [] [] = Unit {0}
  Typed [] (s ∷ ss) = ⊥
  Typed (x ∷ xs) [] = ⊥
  Typed (x ∷ xs) (s ∷ ss) = (sort_of_term v target x ≡ Some s) × Typed xs ss

  pub typed_length : (xs : List Term) (ss : List ℕ) → Typed xs ss → length xs ≡ length ss
  typed_length [] [] h = refl
  typed_length [] (s ∷ ss) h = absurd h
  typed_length (x ∷ xs) [] h = absurd h
  typed_length (x ∷ xs) (s ∷ ss) h = ap (λ n. suc n) (typed_length xs ss h.1)

  pub typed_both : (xs ys : List Term) (ss ts : List ℕ) → Typed xs ss → Typed ys ts → Typed (xs ++ ys) (ss ++ ts)
  typed_both [] ys [] ts h g = g
  typed_both [] ys (s ∷ ss) ts h g = absurd h
  typed_both (x ∷ xs) ys [] ts h g = absurd h
  typed_both (x ∷ xs) ys (s ∷ ss) ts h g = (h.0, typed_both xs ys ss ts h.1 g)

  pub record Parted (zs : List Term) (ss ts : List ℕ) : Type 0 where
    pub first : List Term
    pub second : List Term
    pub is : zs ≡ first ++ second
    pub first_typed : Typed first ss
    pub second_typed : Typed second ts

  pub typed_parts : (zs : List Term) (ss ts : List ℕ) → Typed zs (ss ++ ts) → Parted zs ss ts
  typed_parts zs [] ts h = record { first = []; second = zs; is = refl; first_typed = tt; second_typed = h }
  typed_parts [] (s ∷ ss) ts h = absurd h
  typed_parts (z ∷ zs) (s ∷ ss) ts h =
      let rest = typed_parts zs ss ts h.1 in
      record { first = z ∷ rest.first; second = rest.second; is = ap (λ ys. z ∷ ys) rest.is; first_typed = (h.0, rest.first_typed); second_typed = rest.second_typed }

  pub typed_at : (xs : List Term) (ss : List ℕ) (k s : ℕ) (d : Term) → Typed xs ss → slice_get ss k ≡ Some s → sort_of_term v target (get_or xs k d) ≡ Some s
  typed_at [] [] k s d h e = cc
  typed_at [] (r ∷ ss) k s d h e = absurd h
  typed_at (x ∷ xs) [] k s d h e = absurd h
  typed_at (x ∷ xs) (r ∷ ss) zero s d h e = let same : r ≡ s = cc in h.0 ∙ ap Some same
  typed_at (x ∷ xs) (r ∷ ss) (suc k) s d h e = typed_at xs ss k s d h.1 e

  -- each sort has a term
  abbrev pub Inhabited : List ℕ → Type 0
  Inhabited ss = AllByRecursion (λ s. (t : Term) × (sort_of_term v target t ≡ Some s)) ss

  pub fillers : (ss : List ℕ) → Inhabited ss → (ys : List Term) × Typed ys ss
  fillers [] h = ([], tt)
  fillers (s ∷ ss) h = let rest = fillers ss h.1 in (h.0.0 ∷ rest.0, (h.0.1, rest.1))

  pub inhabited_parts : (ss ts : List ℕ) → Inhabited (ss ++ ts) → Inhabited ss × Inhabited ts
  inhabited_parts [] ts h = (tt, h)
  inhabited_parts (s ∷ ss) ts h = let rest = inhabited_parts ss ts h.1 in ((h.0, rest.0), rest.1)

pub reverse_snoc : {X : Type 0} (xs : List X) (x : X) → reverse (xs ++ x ∷ []) ≡ x ∷ reverse xs
reverse_snoc xs x = reverse-append xs (x ∷ [])
