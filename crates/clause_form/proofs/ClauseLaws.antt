-- Laws of instances: of trivial clauses, and of clauses that are covered.
use Rattle.std.specs.Prelude.{ℕ, ◌+◌, ◌-◌, ◌<◌, ◌≤◌, nat_lt, if◌then◌else◌, Bool, true, List, [], ◌∷◌, ◌++◌, ◌≡◌, map, length, Option, Some, None, slice_get, refl}
use Rattle.std.specs.List.{AllByRecursion}
use Rattle.std.proofs.Common.{ap, sym, subst, ◌∙◌, arith, inl, inr, zero, suc}
use Rattle.std.specs.Option.{option_map}
use Rattle.std.proofs.lemmas.Simd.{map-map}
use Rattle.std.proofs.lemmas.Option.{slice_get-map, slice_get_within}
use Rattle.std.proofs.lemmas.Bool.{lt-ltb, le-ltb}
use Rattle.std.proofs.lemmas.List.Elements.{recursion_from_All, All-map, All-weaker}
use Rattle.fof_terms.specs.declared.term.Term.{Term, Var, App}
use Rattle.fof_terms.proofs.Induction.{term_induction}
use Rattle.fof_terms.specs.Vocabulary.{Vocabulary}
use Rattle.fof_terms.proofs.LiftingLaws.{below_or_above, applied_found, holds_found, one_found}
use Rattle.fof_terms.specs.Sorts.{applied, one_sort, sort_of_term}
use Rattle.fof_terms.proofs.SortsFacts.{sort_of_term-Var, sort_of_term-App}
use Rattle.clause_form.specs.declared.clause.AtomOf.{AtomOf}
use Rattle.clause_form.specs.declared.clause.AtomOf.TheVariants.{Pred, Eq, True, False}
use Rattle.clause_form.specs.declared.clause.Lit.{Lit}
use Rattle.clause_form.specs.declared.clause.Clause.{Clause}
use Rattle.clause_form.specs.Images.{image, IsImages}
use Rattle.clause_form.proofs.ImagesFacts.{image-Var, image-App, image_image, AgreeOn, agree_found, image_sorted, image_agrees, kept_answers}
use Rattle.clause_form.specs.Covers.{at_terms, in_lit, lit_image, turned_atom, negated, IsSame, Denies, IsAbsurd, IsCovered, scope_of, CoversBy, Covers, IsTrivial, is_sorted_atom, AreSorted, IsInstanceBy, IsInstance}

of_each : {X : Type 0} (P : X → Type 0) (xs : List X) → ((x : X) → P x) → AllByRecursion P xs
of_each P [] h = tt
of_each P (x ∷ xs) h = (h x, of_each P xs h)

stay_each : {X : Type 0} (f : X → X) (xs : List X) → AllByRecursion (λ x. f x ≡ x) xs → map f xs ≡ xs
stay_each f [] h = refl
stay_each f (x ∷ xs) h = rw (h.0, stay_each f xs h.1) refl

same_maps : {X Y : Type 0} (f g : X → Y) (xs : List X) → ((x : X) → f x ≡ g x) → map f xs ≡ map g xs
same_maps f g [] e = refl
same_maps f g (x ∷ xs) e = rw (e x, same_maps f g xs e) refl

-- images of atoms and literals
atom_image_image : (t s : ℕ → Term) (a : AtomOf) → at_terms (image t) (at_terms (image s) a) ≡ at_terms (image (λ k. image t (s k))) a
atom_image_image t s (Pred p ts) = rw map-map (ap (Pred p) (same_maps _ _ ts (image_image t s)))
atom_image_image t s (Eq l r) = rw (image_image t s l, image_image t s r) refl
atom_image_image t s True = refl
atom_image_image t s False = refl

pub lit_image_image : (t s : ℕ → Term) (l : Lit) → lit_image t (lit_image s l) ≡ lit_image (λ k. image t (s k)) l
lit_image_image t s l = ap (λ (a : AtomOf). record { positive = l.positive; atom = a }) (atom_image_image t s l.atom)

turned_image : (s : ℕ → Term) (a : AtomOf) → turned_atom (at_terms (image s) a) ≡ at_terms (image s) (turned_atom a)
turned_image s (Pred p ts) = refl
turned_image s (Eq l r) = refl
turned_image s True = refl
turned_image s False = refl

pub same_image : (s : ℕ → Term) (k l : Lit) → IsSame k l → IsSame (lit_image s k) (lit_image s l)
same_image s k l (inl e) = inl (ap (lit_image s) e)
same_image s k l (inr e) = inr (ap (λ (a : AtomOf). record { positive = k.positive; atom = a }) (turned_image s k.atom) ∙ ap (lit_image s) e)

denies_image : (s : ℕ → Term) (a : AtomOf) (positive : Bool) → Denies a positive → Denies (at_terms (image s) a) positive
denies_image s (Pred p ts) positive h = absurd h
denies_image s (Eq l r) positive h = (h.0, ap (image s) h.1)
denies_image s True positive h = h
denies_image s False positive h = h

pub absurd_image : (s : ℕ → Term) (l : Lit) → IsAbsurd l → IsAbsurd (lit_image s l)
absurd_image s l h = denies_image s l.atom l.positive h

pub get_image : (s : ℕ → Term) (lits : List Lit) (i : ℕ) (l : Lit) → slice_get lits i ≡ Some l → slice_get (map (lit_image s) lits) i ≡ Some (lit_image s l)
get_image s lits i l e = slice_get-map (lit_image s) lits i ∙ ap (option_map (lit_image s)) e

-- an instance of a trivial clause is trivial
pub trivial_image : (s : ℕ → Term) (lits : List Lit) → IsTrivial lits → IsTrivial (map (lit_image s) lits)
trivial_image s lits (inl h) = inl (h.0, lit_image s h.1, get_image s lits h.0 h.1 h.2, absurd_image s (negated h.1) h.3)
trivial_image s lits (inr h) = inr (h.0, lit_image s h.1, get_image s lits h.0 h.1 h.2, (h.3.0, lit_image s h.3.1, get_image s lits h.3.0 h.3.1 h.3.2, same_image s (negated h.1) h.3.1 h.3.3))

pub covered_image : (s : ℕ → Term) (line : List Lit) (k : Lit) → IsCovered line k → IsCovered (map (lit_image s) line) (lit_image s k)
covered_image s line k (inl h) = inl (h.0, lit_image s h.1, get_image s line h.0 h.1 h.2, same_image s k h.1 h.3)
covered_image s line k (inr h) = inr (absurd_image s k h)

-- images that agree on the scope agree on well-sorted literals
module _ (v : Vocabulary) (scope : List ℕ) (s t : ℕ → Term) (h : AgreeOn scope s t) where
  atom_agrees : (a : AtomOf) → is_sorted_atom v scope a ≡ true → at_terms (image s) a ≡ at_terms (image t) a
  atom_agrees (Pred p ts) e =
      let each = holds_found (sort_of_term v scope) ts (slice_get v.symbols p) e in
      ap (Pred p) (agree_found (sort_of_term v scope) (image s) (image t) ts (of_each _ ts (image_agrees v scope s t h)) each)
  atom_agrees (Eq l r) e =
      let sides = one_found (sort_of_term v scope l) (sort_of_term v scope r) e in
      rw (image_agrees v scope s t h l sides.0.0 sides.0.1, image_agrees v scope s t h r sides.1.0 sides.1.1) refl
  atom_agrees True e = refl
  atom_agrees False e = refl

  lit_agrees : (l : Lit) → is_sorted_atom v scope l.atom ≡ true → lit_image s l ≡ lit_image t l
  lit_agrees l e = ap (λ (a : AtomOf). record { positive = l.positive; atom = a }) (atom_agrees l.atom e)

  lits_agree_each : (lits : List Lit) → AllByRecursion (λ l. is_sorted_atom v scope l.atom ≡ true) lits → map (lit_image s) lits ≡ map (lit_image t) lits
  lits_agree_each [] e = refl
  lits_agree_each (l ∷ lits) e = rw (lit_agrees l e.0, lits_agree_each lits e.1) refl

  pub lits_agree : (lits : List Lit) → AreSorted v scope lits → map (lit_image s) lits ≡ map (lit_image t) lits
  lits_agree lits sorted = lits_agree_each lits (recursion_from_All (λ (l : Lit). is_sorted_atom v scope l.atom ≡ true) lits sorted.fits)

-- what is well-sorted has well-sorted images
one_sort_kept : (l r l' r' : Option ℕ) → ((s : ℕ) → l ≡ Some s → l' ≡ Some s) → ((s : ℕ) → r ≡ Some s → r' ≡ Some s) → one_sort l r ≡ true → one_sort l' r' ≡ true
one_sort_kept l None l' r' hl hr e = cc
one_sort_kept None (Some y) l' r' hl hr e = cc
one_sort_kept (Some x) (Some y) l' r' hl hr e = rw (hl x refl, hr y refl) e

-- a change of terms that keeps their sorts
abbrev pub KeepsSorts : Vocabulary → List ℕ → List ℕ → (Term → Term) → Type 0
KeepsSorts v from to f = (u : Term) (r : ℕ) → sort_of_term v from u ≡ Some r → sort_of_term v to (f u) ≡ Some r

pub atom_sorted : (v : Vocabulary) (from to : List ℕ) (f : Term → Term) → KeepsSorts v from to f → (a : AtomOf) → is_sorted_atom v from a ≡ true → is_sorted_atom v to (at_terms f a) ≡ true
atom_sorted v from to f h (Pred p ts) e =
    let each = holds_found (sort_of_term v from) ts (slice_get v.symbols p) e in
    let same = kept_answers (sort_of_term v from) (λ t. sort_of_term v to (f t)) ts (of_each _ ts h) each in
    rw (map-map, same) e
atom_sorted v from to f h (Eq l r) e = one_sort_kept _ _ _ _ (h l) (h r) e
atom_sorted v from to f h True e = refl
atom_sorted v from to f h False e = refl

pub lits_sorted : (v : Vocabulary) (from to : List ℕ) (f : Term → Term) → KeepsSorts v from to f → (lits : List Lit) → AreSorted v from lits → AreSorted v to (map (in_lit f) lits)
lits_sorted v from to f h lits sorted = record {
  fits = All-map (λ (l : Lit). is_sorted_atom v to l.atom ≡ true) (in_lit f) lits
      (All-weaker (λ (l : Lit). is_sorted_atom v from l.atom ≡ true) (λ (l : Lit). is_sorted_atom v to (at_terms f l.atom) ≡ true) (λ l. atom_sorted v from to f h l.atom) lits sorted.fits);
}

-- a place in a list that goes on
get_more : (xs more : List ℕ) (k r : ℕ) → slice_get xs k ≡ Some r → slice_get (xs ++ more) k ≡ Some r
get_more [] more k r e = cc
get_more (x ∷ xs) more zero r e = e
get_more (x ∷ xs) more (suc k) r e = get_more xs more k r e

get_before : (xs more : List ℕ) (k r : ℕ) → k < length xs → slice_get (xs ++ more) k ≡ Some r → slice_get xs k ≡ Some r
get_before [] more k r h e = absurd (omega arith)
get_before (x ∷ xs) more zero r h e = e
get_before (x ∷ xs) more (suc k) r h e = get_before xs more k r (omega arith) e

get_after : (xs more : List ℕ) (j r : ℕ) → slice_get (xs ++ more) (length xs + j) ≡ slice_get more j
get_after [] more j r = let same : 0 + j ≡ j = omega arith in rw same refl
get_after (x ∷ xs) more j r = let same : suc (length xs) + j ≡ suc (length xs + j) = omega arith in rw same (get_after xs more j r)

module _ (v : Vocabulary) (scope more : List ℕ) where
  pub sorted_more : (u : Term) (r : ℕ) → sort_of_term v scope u ≡ Some r → sort_of_term v (scope ++ more) u ≡ Some r
  sorted_more = term_induction _ (record {
    var = λ k r e. rw sort_of_term-Var (get_more scope more k r (rw sort_of_term-Var at e));
    app = λ f ts all r e.
        let old : applied (slice_get v.symbols f) (map (sort_of_term v scope) ts) ≡ Some r = rw sort_of_term-App at e in
        let each = applied_found (sort_of_term v scope) ts (slice_get v.symbols f) r old in
        let same = kept_answers (sort_of_term v scope) (sort_of_term v (scope ++ more)) ts all each in
        rw (sort_of_term-App, same) old;
  })

-- images that leave further variables as they are: those past the first n move past the first m
abbrev pub carried : ℕ → ℕ → (ℕ → Term) → ℕ → Term
carried n m s k = if nat_lt k n then s k else Var (m + (k - n))

carried_below : (n m : ℕ) (s : ℕ → Term) (k : ℕ) → k < n → carried n m s k ≡ s k
carried_below n m s k h = rw (lt-ltb k n h) refl

carried_above : (n m : ℕ) (s : ℕ → Term) (k : ℕ) → n ≤ k → carried n m s k ≡ Var (m + (k - n))
carried_above n m s k h = rw (le-ltb k n h) refl

module _ (v : Vocabulary) (from to more : List ℕ) (s : ℕ → Term) (h : IsImages v from to s) where
  pub carried_images : IsImages v (from ++ more) (to ++ more) (carried (length from) (length to) s)
  carried_images = record {
    sorted = λ k r e. elim (below_or_above k (length from)) [
      | inl b ↦ rw (carried_below (length from) (length to) s k b) (sorted_more v to more (s k) r (h.sorted k r (get_before from more k r b e)))
      | inr b ↦
          let at : length from + (k - length from) ≡ k = omega arith in
          let there : slice_get more (k - length from) ≡ Some r = sym (get_after from more (k - length from) r) ∙ (rw at e) in
          rw (carried_above (length from) (length to) s k b, sort_of_term-Var, get_after to more (k - length from) r) there
    ];
  }

  pub carried_agrees : AgreeOn from s (carried (length from) (length to) s)
  carried_agrees = record { same = λ k r e. sym (carried_below (length from) (length to) s k (slice_get_within from k r e)) }

pub images_then : (v : Vocabulary) (from mid to : List ℕ) (s t : ℕ → Term) → IsImages v from mid s → IsImages v mid to t → IsImages v from to (λ k. image t (s k))
images_then v from mid to s t h g = record { sorted = λ k r e. image_sorted v mid to t g (s k) r (h.sorted k r e) }

-- what covers a clause covers each instance of it
pub covers_instance : (v : Vocabulary) (scope : List ℕ) (lits : List Lit) (c line : Clause) (s : ℕ → Term) → AreSorted v (scope_of c) c.lits → IsInstanceBy v (scope_of c) c.lits line s
    → (more : List ℕ) (r : ℕ → Term) → CoversBy v scope lits c more r
    → CoversBy v scope lits line more (λ k. image (carried (length (scope_of c)) (length (scope_of line)) s) (r k))
covers_instance v scope lits c line s sorted is more r covers =
    let t : ℕ → Term = carried (length (scope_of c)) (length (scope_of line)) s in
    let same : line.lits ≡ map (lit_image t) c.lits =
    is.same ∙ lits_agree v (scope_of c) s t (carried_agrees v (scope_of c) (scope_of line) more s is.images) c.lits sorted in
    record {
      images = images_then v scope (scope_of c ++ more) (scope_of line ++ more) r t covers.images (carried_images v (scope_of c) (scope_of line) more s is.images);
      covered = λ i k e.
          subst (λ (ls : List Lit). IsCovered ls (lit_image (λ x. image t (r x)) k)) (sym same)
          (subst (λ (l : Lit). IsCovered (map (lit_image t) c.lits) l) (lit_image_image t r k) (covered_image t c.lits (lit_image r k) (covers.covered i k e)));
    }

-- an instance is empty exactly where the clause is
pub empty_instance : (s : ℕ → Term) (lits : List Lit) → map (lit_image s) lits ≡ [] → lits ≡ []
empty_instance s [] e = refl
empty_instance s (l ∷ lits) e = cc

-- a clause is an instance of itself
image_itself : (u : Term) → image Var u ≡ u
image_itself = term_induction _ (record {
  var = λ k. image-Var Var k;
  app = λ f ts all. rw image-App (ap (App f) (stay_each (image Var) ts all));
})

pub atom_itself : (f : Term → Term) → ((u : Term) → f u ≡ u) → (a : AtomOf) → at_terms f a ≡ a
atom_itself f h (Pred p ts) = ap (Pred p) (stay_each f ts (of_each _ ts h))
atom_itself f h (Eq l r) = rw (h l, h r) refl
atom_itself f h True = refl
atom_itself f h False = refl

pub lits_themselves : (f : Term → Term) → ((u : Term) → f u ≡ u) → (lits : List Lit) → map (in_lit f) lits ≡ lits
lits_themselves f h [] = refl
lits_themselves f h (l ∷ lits) = rw (atom_itself f h l.atom, lits_themselves f h lits) refl

pub instance_itself : (v : Vocabulary) (c : Clause) → IsInstance v c c
instance_itself v c = (
  Var,
  record {
    images = record { sorted = λ k r e. rw sort_of_term-Var e };
    same = sym (lits_themselves (image Var) image_itself c.lits);
  },
)

-- an instance of an instance is an instance
pub instance_then : (v : Vocabulary) (c d e : Clause) → IsInstance v c d → IsInstance v d e → IsInstance v c e
instance_then v c d e h g = (
  λ k. image g.0 (h.0 k),
  record {
    images = images_then v (scope_of c) (scope_of d) (scope_of e) h.0 g.0 h.1.images g.1.images;
    same = g.1.same ∙ ap (map (lit_image g.0)) h.1.same ∙ map-map (lit_image g.0) (lit_image h.0) c.lits ∙ same_maps _ _ c.lits (lit_image_image g.0 h.0);
  },
)

-- a clause covers its instances
pub covers_its_instance : (v : Vocabulary) (c e : Clause) → IsInstance v c e → Covers v c e
covers_its_instance v c e is = (
  [],
  is.0,
  record {
    images = record { sorted = λ k r h. sorted_more v (scope_of e) [] (is.0 k) r (is.1.images.sorted k r h) };
    covered = λ i k h. inl (i, lit_image is.0 k, subst (λ (ls : List Lit). slice_get ls i ≡ Some (lit_image is.0 k)) (sym is.1.same) (get_image is.0 c.lits i k h), inl refl);
  },
)
