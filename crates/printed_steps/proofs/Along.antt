-- Places under a change of terms that keeps the applications on the way there, each with a new number for its function.
use Rattle.std.specs.Prelude.{ℕ, ◌≡◌, List, [], ◌∷◌, map, slice_get, slice_set, Some, refl}
use Rattle.std.specs.List.{AllByRecursion}
use Rattle.std.proofs.Common.{ap, sym, subst, ◌∙◌}
use Rattle.fof_terms.specs.declared.term.Term.{Term, App}
use Rattle.fof_terms.proofs.Scoped.{member_of}
use Rattle.fof_terms.proofs.Walks.{TermWalk}
use Rattle.clause_form.specs.declared.clause.AtomOf.{AtomOf}
use Rattle.clause_form.specs.declared.clause.AtomOf.TheVariants.{Pred, Eq, True, False}
use Rattle.clause_form.specs.declared.clause.Lit.{Lit}
use Rattle.clause_form.specs.Covers.{at_terms, in_lit}
use Rattle.clause_rules.specs.Places.{args_of, with_args, term_at, put_at, args_of_atom, sides_of, atom_with_args, lit_term_at, lit_put_at}
use Rattle.clause_rules.specs.code.PlaceSearch.{go_on, below, set_on, put_below}
use Rattle.clause_rules.proofs.Equations.{map_set}
use Rattle.clause_rules.proofs.ListPlaces.{get_lifted}
use Rattle.clause_rules.proofs.PlaceLaws.{args_of-App, with_args-App, term_below, put_is_below, shape_of, found_on}

args_changed : (f : Term → Term) (a : AtomOf) → args_of_atom (at_terms f a) ≡ map f (args_of_atom a)
args_changed f (Pred p ts) = refl
args_changed f (Eq l r) = refl
args_changed f True = refl
args_changed f False = refl

module _ (number : ℕ → ℕ) (f : Term → Term) where
  -- the change keeps applications of the function
  abbrev pub Keeps : ℕ → Type 0
  Keeps g = (us : List Term) → f (App g us) ≡ App (number g) (map f us)

  -- each step goes into an application that is kept
  abbrev pub IsAlong : List ℕ → Term → Type 0
  IsAlong [] t = Unit {0}
  IsAlong (n ∷ steps) t = (g : ℕ) × (ts : List Term) × (u : Term) × (t ≡ App g ts) × (slice_get ts n ≡ Some u) × Keeps g × IsAlong steps u

  abbrev pub AreAlong : List ℕ → List Term → Type 0
  AreAlong [] ts = Unit {0}
  AreAlong (n ∷ steps) ts = (u : Term) × (slice_get ts n ≡ Some u) × IsAlong steps u

  below_along : (steps : List ℕ) (t u : Term) → IsAlong steps t → below steps t ≡ Some u → below steps (f t) ≡ Some (f u)
  below_along [] t u h e = let same : t ≡ u = cc in ap (λ x. Some (f x)) same
  below_along (n ∷ steps) t u h e =
      let args : args_of t ≡ h.1 = ap args_of h.3 ∙ args_of-App h.0 h.1 in
      let args' : args_of (f t) ≡ map f h.1 = ap (λ x. args_of (f x)) h.3 ∙ ap args_of (h.5 h.1) ∙ args_of-App (number h.0) (map f h.1) in
      let deeper : below steps h.2 ≡ Some u = sym (ap (λ (ts : List Term). go_on (below steps) (slice_get ts n)) args ∙ ap (go_on (below steps)) h.4) ∙ e in
      ap (λ (ts : List Term). go_on (below steps) (slice_get ts n)) args' ∙ ap (go_on (below steps)) (get_lifted f h.1 n h.2 h.4) ∙ below_along steps h.2 u h.6 deeper

  put_along : (steps : List ℕ) (t x : Term) → IsAlong steps t → f (put_below steps x t) ≡ put_below steps (f x) (f t)
  put_along [] t x h = refl
  put_along (n ∷ steps) t x h =
      let args : args_of t ≡ h.1 = ap args_of h.3 ∙ args_of-App h.0 h.1 in
      let args' : args_of (f t) ≡ map f h.1 = ap (λ y. args_of (f y)) h.3 ∙ ap args_of (h.5 h.1) ∙ args_of-App (number h.0) (map f h.1) in
      let old : put_below (n ∷ steps) x t ≡ App h.0 (slice_set h.1 n (put_below steps x h.2)) =
      ap (λ (ts : List Term). with_args t (set_on (put_below steps x) (slice_get ts n) n ts)) args ∙ ap (λ o. with_args t (set_on (put_below steps x) o n h.1)) h.4 ∙ ap (λ y. with_args y (slice_set h.1 n (put_below steps x h.2))) h.3 ∙ with_args-App h.0 h.1 (slice_set h.1 n (put_below steps x h.2)) in
      let new : put_below (n ∷ steps) (f x) (f t) ≡ App (number h.0) (slice_set (map f h.1) n (put_below steps (f x) (f h.2))) =
      ap (λ (ts : List Term). with_args (f t) (set_on (put_below steps (f x)) (slice_get ts n) n ts)) args' ∙ ap (λ o. with_args (f t) (set_on (put_below steps (f x)) o n (map f h.1))) (get_lifted f h.1 n h.2 h.4)
      ∙ ap (λ y. with_args y (slice_set (map f h.1) n (put_below steps (f x) (f h.2)))) (ap f h.3 ∙ h.5 h.1) ∙ with_args-App (number h.0) (map f h.1) (slice_set (map f h.1) n (put_below steps (f x) (f h.2))) in
      ap f old ∙ h.5 (slice_set h.1 n (put_below steps x h.2)) ∙ ap (App (number h.0)) (map_set f h.1 n (put_below steps x h.2) ∙ ap (slice_set (map f h.1) n) (put_along steps h.2 x h.6)) ∙ sym new

  at_along : (place : List ℕ) (ts : List Term) (u : Term) → AreAlong place ts → term_at place ts ≡ Some u → term_at place (map f ts) ≡ Some (f u)
  at_along [] ts u h e = cc
  at_along (n ∷ steps) ts u h e =
      let deeper : below steps h.0 ≡ Some u = sym (term_below steps n ts ∙ ap (go_on (below steps)) h.1) ∙ e in
      term_below steps n (map f ts) ∙ ap (go_on (below steps)) (get_lifted f ts n h.0 h.1) ∙ below_along steps h.0 u h.2 deeper

  put_at_along : (place : List ℕ) (ts : List Term) (x : Term) → AreAlong place ts → map f (put_at place x ts) ≡ put_at place (f x) (map f ts)
  put_at_along [] ts x h = refl
  put_at_along (n ∷ steps) ts x h =
      ap (map f) (put_is_below steps n x ts ∙ ap (λ o. set_on (put_below steps x) o n ts) h.1) ∙ map_set f ts n (put_below steps x h.0) ∙ ap (slice_set (map f ts) n) (put_along steps h.0 x h.2)
      ∙ sym (put_is_below steps n (f x) (map f ts) ∙ ap (λ o. set_on (put_below steps (f x)) o n (map f ts)) (get_lifted f ts n h.0 h.1))

  sides_changed : (ts : List Term) → sides_of (map f ts) ≡ at_terms f (sides_of ts)
  sides_changed [] = refl
  sides_changed (l ∷ []) = refl
  sides_changed (l ∷ r ∷ ts) = refl

  with_changed : (a : AtomOf) (ts : List Term) → atom_with_args (at_terms f a) (map f ts) ≡ at_terms f (atom_with_args a ts)
  with_changed (Pred p us) ts = refl
  with_changed (Eq l r) ts = sides_changed ts
  with_changed True ts = refl
  with_changed False ts = refl

  pub lit_at_along : (place : List ℕ) (k : Lit) (u : Term) → AreAlong place (args_of_atom k.atom) → lit_term_at place k ≡ Some u → lit_term_at place (in_lit f k) ≡ Some (f u)
  lit_at_along place k u h e = ap (term_at place) (args_changed f k.atom) ∙ at_along place (args_of_atom k.atom) u h e

  pub lit_put_along : (place : List ℕ) (k : Lit) (x : Term) → AreAlong place (args_of_atom k.atom) → in_lit f (lit_put_at place x k) ≡ lit_put_at place (f x) (in_lit f k)
  lit_put_along place k x h =
      ap (λ (a : AtomOf). record { positive = k.positive; atom = a })
      (sym (with_changed k.atom (put_at place x (args_of_atom k.atom))) ∙ ap (atom_with_args (at_terms f k.atom)) (put_at_along place (args_of_atom k.atom) x h ∙ ap (put_at place (f x)) (sym (args_changed f k.atom))))

  -- places of terms all of whose applications are kept, in the terms that another change makes of them
  module _ (j : Term → Term) (w : TermWalk j) (Good : Term → Type 0) (opened : (g : ℕ) (ts : List Term) → Good (App g ts) → Keeps g × AllByRecursion Good ts) where
    along_below : (steps : List ℕ) (t u : Term) → Good t → below steps t ≡ Some u → IsAlong steps (j t)
    along_below [] t u h e = tt
    along_below (n ∷ steps) t u h e =
        let s = shape_of t n steps u e in
        let parts = opened s.0 s.1 (subst Good s.2 h) in
        let args : args_of t ≡ s.1 = ap args_of s.2 ∙ args_of-App s.0 s.1 in
        let at = found_on (slice_get s.1 n) steps u (sym (ap (λ (ts : List Term). go_on (below steps) (slice_get ts n)) args) ∙ e) in
        (s.0, map j s.1, j at.0, ap j s.2 ∙ w.app s.0 s.1, get_lifted j s.1 n at.0 at.1, parts.0, along_below steps at.0 u (member_of Good s.1 n at.0 parts.1 at.1) at.2)

    along_at : (place : List ℕ) (ts : List Term) (u : Term) → AllByRecursion Good ts → term_at place ts ≡ Some u → AreAlong place (map j ts)
    along_at [] ts u h e = tt
    along_at (n ∷ steps) ts u h e =
        let at = found_on (slice_get ts n) steps u (sym (term_below steps n ts) ∙ e) in
        (j at.0, get_lifted j ts n at.0 at.1, along_below steps at.0 u (member_of Good ts n at.0 h at.1) at.2)

    pub lit_along : (place : List ℕ) (k : Lit) (u : Term) → AllByRecursion Good (args_of_atom k.atom) → lit_term_at place k ≡ Some u → AreAlong place (args_of_atom (in_lit j k).atom)
    lit_along place k u h e = subst (AreAlong place) (sym (args_changed j k.atom)) (along_at place (args_of_atom k.atom) u h e)
