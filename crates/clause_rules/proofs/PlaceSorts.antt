-- A literal with a term of the same sort at a place is as well-sorted.
use Rattle.std.specs.Prelude.{ℕ, ◌≡◌, true, List, [], ◌∷◌, map, slice_get, slice_set, Option, Some, refl}
use Rattle.std.specs.List.{AllByRecursion}
use Rattle.std.proofs.Common.{ap, sym, subst, ◌∙◌, zero, suc}
use Rattle.fof_terms.proofs.LiftingLaws.{applied_found}
use Rattle.fof_terms.proofs.Scoped.{member_of}
use Rattle.clause_rules.proofs.NeedSorts.{Fits, Found, sorted_fits}
use Rattle.fof_terms.specs.Vocabulary.{Vocabulary}
use Rattle.fof_terms.specs.declared.term.Term.{Term, App}
use Rattle.fof_terms.specs.Sorts.{applied, sort_of_term, one_sort, holds_of}
use Rattle.fof_terms.proofs.SortsFacts.{sort_of_term-App}
use Rattle.clause_form.specs.declared.clause.AtomOf.{AtomOf}
use Rattle.clause_form.specs.declared.clause.AtomOf.TheVariants.{Pred, Eq, True, False}
use Rattle.clause_form.specs.declared.clause.Lit.{Lit}
use Rattle.clause_form.specs.Covers.{is_sorted_atom}
use Rattle.clause_rules.specs.Places.{args_of, with_args, term_at, put_at, args_of_atom, sides_of, atom_with_args, lit_term_at, lit_put_at}
use Rattle.clause_rules.specs.code.PlaceSearch.{go_on, below, set_on, put_below}
use Rattle.clause_rules.proofs.PlaceLaws.{args_of-App, with_args-App, term_below, put_is_below, shape_of, found_on}

-- one element changed to one with the same value
same_set : {X Y : Type 0} (f : X → Y) (xs : List X) (n : ℕ) (x y : X) → slice_get xs n ≡ Some x → f y ≡ f x → map f (slice_set xs n y) ≡ map f xs
same_set f [] n x y e h = refl
same_set f (z ∷ xs) zero x y e h = let same : z ≡ x = cc in ap (λ w. w ∷ map f xs) (h ∙ ap f (sym same))
same_set f (z ∷ xs) (suc n) x y e h = ap (λ ws. f z ∷ ws) (same_set f xs n x y e h)

module _ (v : Vocabulary) (scope : List ℕ) (u r : Term) (same : sort_of_term v scope r ≡ sort_of_term v scope u) where
  abbrev sort : Term → Option ℕ
  sort = sort_of_term v scope

  below_sort : (steps : List ℕ) (t : Term) → below steps t ≡ Some u → sort (put_below steps r t) ≡ sort t
  below_sort [] t e = let is : t ≡ u = cc in same ∙ ap sort (sym is)
  below_sort (n ∷ steps) t e =
      let s = shape_of t n steps u e in
      let args : args_of t ≡ s.1 = ap args_of s.2 ∙ args_of-App s.0 s.1 in
      let at = found_on (slice_get s.1 n) steps u (sym (ap (λ (ts : List Term). go_on (below steps) (slice_get ts n)) args) ∙ e) in
      let new : put_below (n ∷ steps) r t ≡ App s.0 (slice_set s.1 n (put_below steps r at.0)) =
      ap (λ (ts : List Term). with_args t (set_on (put_below steps r) (slice_get ts n) n ts)) args ∙ ap (λ o. with_args t (set_on (put_below steps r) o n s.1)) at.1 ∙ ap (λ y. with_args y (slice_set s.1 n (put_below steps r at.0))) s.2 ∙ with_args-App s.0 s.1 (slice_set s.1 n (put_below steps r at.0)) in
      ap sort new ∙ sort_of_term-App v scope s.0 (slice_set s.1 n (put_below steps r at.0)) ∙ ap (applied (slice_get v.symbols s.0)) (same_set sort s.1 n at.0 (put_below steps r at.0) at.1 (below_sort steps at.0 at.2))
      ∙ sym (sort_of_term-App v scope s.0 s.1) ∙ ap sort (sym s.2)

  at_sorts : (place : List ℕ) (ts : List Term) → term_at place ts ≡ Some u → map sort (put_at place r ts) ≡ map sort ts
  at_sorts [] ts e = refl
  at_sorts (n ∷ steps) ts e =
      let at = found_on (slice_get ts n) steps u (sym (term_below steps n ts) ∙ e) in
      ap (map sort) (put_is_below steps n r ts ∙ ap (λ o. set_on (put_below steps r) o n ts) at.1) ∙ same_set sort ts n at.0 (put_below steps r at.0) at.1 (below_sort steps at.0 at.2)

  sides_sorted : (xs : List Term) (l m : Term) → map sort xs ≡ sort l ∷ sort m ∷ [] → is_sorted_atom v scope (sides_of xs) ≡ one_sort (sort l) (sort m)
  sides_sorted [] l m e = cc
  sides_sorted (x ∷ []) l m e = cc
  sides_sorted (x ∷ y ∷ xs) l m e = let first : sort x ≡ sort l = cc in let second : sort y ≡ sort m = cc in rw (first, second) refl

  atom_fits : (a : AtomOf) (place : List ℕ) → term_at place (args_of_atom a) ≡ Some u → is_sorted_atom v scope (atom_with_args a (put_at place r (args_of_atom a))) ≡ is_sorted_atom v scope a
  atom_fits (Pred p ts) place e = ap (holds_of (slice_get v.symbols p)) (at_sorts place ts e)
  atom_fits (Eq l m) place e = sides_sorted (put_at place r (l ∷ m ∷ [])) l m (at_sorts place (l ∷ m ∷ []) e)
  atom_fits True place e = refl
  atom_fits False place e = refl

  pub replaced_fits : (k : Lit) (place : List ℕ) → lit_term_at place k ≡ Some u → is_sorted_atom v scope k.atom ≡ true → is_sorted_atom v scope (lit_put_at place r k).atom ≡ true
  replaced_fits k place e h = atom_fits k.atom place e ∙ h

-- each term in a well-sorted literal has a sort
module _ (v : Vocabulary) (scope : List ℕ) where
  below_found : (steps : List ℕ) (t u : Term) → below steps t ≡ Some u → Found v scope t → Found v scope u
  below_found [] t u e h = let is : t ≡ u = cc in subst (Found v scope) is h
  below_found (n ∷ steps) t u e h =
      let s = shape_of t n steps u e in
      let args : args_of t ≡ s.1 = ap args_of s.2 ∙ args_of-App s.0 s.1 in
      let at = found_on (slice_get s.1 n) steps u (sym (ap (λ (ts : List Term). go_on (below steps) (slice_get ts n)) args) ∙ e) in
      let sort : applied (slice_get v.symbols s.0) (map (sort_of_term v scope) s.1) ≡ Some h.0 = sym (sort_of_term-App v scope s.0 s.1) ∙ ap (sort_of_term v scope) (sym s.2) ∙ h.1 in
      below_found steps at.0 u at.2 (member_of (Found v scope) s.1 n at.0 (applied_found (sort_of_term v scope) s.1 (slice_get v.symbols s.0) h.0 sort) at.1)

  at_found : (place : List ℕ) (ts : List Term) (u : Term) → term_at place ts ≡ Some u → AllByRecursion (Found v scope) ts → Found v scope u
  at_found [] ts u e h = cc
  at_found (n ∷ steps) ts u e h =
      let at = found_on (slice_get ts n) steps u (sym (term_below steps n ts) ∙ e) in
      below_found steps at.0 u at.2 (member_of (Found v scope) ts n at.0 h at.1)

  args_found : (a : AtomOf) → Fits v scope a → AllByRecursion (Found v scope) (args_of_atom a)
  args_found (Pred p ts) h = h
  args_found (Eq l m) h = (h.0, (h.1, tt))
  args_found True h = tt
  args_found False h = tt

  pub term_found : (k : Lit) (place : List ℕ) (u : Term) → lit_term_at place k ≡ Some u → is_sorted_atom v scope k.atom ≡ true → Found v scope u
  term_found k place u e h = at_found place (args_of_atom k.atom) u e (args_found k.atom (sorted_fits v scope k.atom h))
