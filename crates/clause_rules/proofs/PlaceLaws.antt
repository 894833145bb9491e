-- Places under changes of terms, and the places that a search goes through.
use Rattle.std.specs.Prelude.{ℕ, ◌≡◌, ◌+◌, List, [], ◌∷◌, ◌++◌, map, slice_get, slice_set, Option, Some, None, refl}
use Rattle.std.specs.List.{AllByRecursion}
use Rattle.std.proofs.Common.{ap, sym, subst, ◌∙◌, arith, zero, suc, append_assoc, append-nil}
use Rattle.fof_terms.proofs.Induction.{term_induction}
use Rattle.fof_terms.proofs.Walks.{TermWalk}
use Rattle.fof_terms.specs.declared.term.Term.{Term, Var, App}
use Rattle.fof_terms.specs.declared.term.Term.TheViews.{outs-Var, outs-App}
use Rattle.clause_form.specs.declared.clause.AtomOf.{AtomOf}
use Rattle.clause_form.specs.declared.clause.AtomOf.TheVariants.{Pred, Eq, True, False}
use Rattle.clause_form.specs.declared.clause.Lit.{Lit}
use Rattle.clause_form.specs.Covers.{at_terms, in_lit}
use Rattle.clause_rules.specs.Places.{args_of, args_of_layer, with_args, with_args_layer, down_into, term_at, down_with, put_at, args_of_atom, sides_of, atom_with_args, lit_term_at, lit_put_at}
use Rattle.clause_rules.specs.PlaceSearch.{numbered, places_within, places_of}
use Rattle.clause_rules.specs.code.PlaceSearch.{go_on, below, set_on, put_below}
use Rattle.clause_rules.proofs.PlaceSearchFacts.{places_within-Var, places_within-App}
use Rattle.clause_rules.proofs.Equations.{map_set}

pub args_of-Var : (k : ℕ) → args_of (Var k) ≡ []
args_of-Var k = ap args_of_layer (outs-Var k)

pub args_of-App : (f : ℕ) (ts : List Term) → args_of (App f ts) ≡ ts
args_of-App f ts = ap args_of_layer (outs-App f ts)

pub with_args-Var : (k : ℕ) (us : List Term) → with_args (Var k) us ≡ Var k
with_args-Var k us = ap (λ y. with_args_layer y us) (outs-Var k)

pub with_args-App : (f : ℕ) (ts us : List Term) → with_args (App f ts) us ≡ App f us
with_args-App f ts us = ap (λ y. with_args_layer y us) (outs-App f ts)

pub term_below : (steps : List ℕ) (n : ℕ) (ts : List Term) → term_at (n ∷ steps) ts ≡ go_on (below steps) (slice_get ts n)
term_below [] n ts = go (slice_get ts n) where
  go : (o : Option Term) → o ≡ go_on (below []) o
  go None = refl
  go (Some t) = refl
term_below (m ∷ steps) n ts = go (λ t. term_below steps m (args_of t)) (slice_get ts n) where
  go : ((t : Term) → term_at (m ∷ steps) (args_of t) ≡ go_on (below steps) (slice_get (args_of t) m)) → (o : Option Term) → down_into (term_at (m ∷ steps)) o ≡ go_on (below (m ∷ steps)) o
  go h None = refl
  go h (Some t) = h t

set_past : (ts : List Term) (n : ℕ) (u : Term) → slice_get ts n ≡ None → slice_set ts n u ≡ ts
set_past [] n u e = refl
set_past (t ∷ ts) zero u e = cc
set_past (t ∷ ts) (suc n) u e = ap (λ us. t ∷ us) (set_past ts n u e)

pub put_is_below : (steps : List ℕ) (n : ℕ) (u : Term) (ts : List Term) → put_at (n ∷ steps) u ts ≡ set_on (put_below steps u) (slice_get ts n) n ts
put_is_below [] n u ts = go (slice_get ts n) refl where
  go : (o : Option Term) → slice_get ts n ≡ o → slice_set ts n u ≡ set_on (put_below [] u) o n ts
  go None e = set_past ts n u e
  go (Some t) e = refl
put_is_below (m ∷ steps) n u ts = go (λ t. put_is_below steps m u (args_of t)) (slice_get ts n) where
  go : ((t : Term) → put_at (m ∷ steps) u (args_of t) ≡ set_on (put_below steps u) (slice_get (args_of t) m) m (args_of t)) → (o : Option Term) → down_with (put_at (m ∷ steps) u) o n ts ≡ set_on (put_below (m ∷ steps) u) o n ts
  go h None = refl
  go h (Some t) = ap (λ us. slice_set ts n (with_args t us)) (h t)

none_here : (n : ℕ) (steps : List ℕ) (u : Term) → go_on (below steps) (slice_get [] n) ≡ Some u → ⊥
none_here n steps u e = cc

-- a term with others below it has arguments
pub shape_of : (t : Term) (n : ℕ) (steps : List ℕ) (u : Term) → below (n ∷ steps) t ≡ Some u → (f : ℕ) × (ts : List Term) × (t ≡ App f ts)
shape_of = term_induction _ (record {
  var = λ k n steps u e. absurd (none_here n steps u (sym (ap (λ (ts : List Term). go_on (below steps) (slice_get ts n)) (args_of-Var k)) ∙ e));
  app = λ f ts all n steps u e. (f, ts, refl);
})

get_of : {X Y : Type 0} (f : X → Y) (xs : List X) (i : ℕ) (x : X) → slice_get xs i ≡ Some x → slice_get (map f xs) i ≡ Some (f x)
get_of f [] i x e = cc
get_of f (y ∷ xs) zero x e = let same : y ≡ x = cc in ap (λ z. Some (f z)) same
get_of f (y ∷ xs) (suc i) x e = get_of f xs i x e

pub found_on : (o : Option Term) (steps : List ℕ) (u : Term) → go_on (below steps) o ≡ Some u → (t : Term) × (o ≡ Some t) × (below steps t ≡ Some u)
found_on None steps u e = cc
found_on (Some t) steps u e = (t, refl, e)

module _ (f : Term → Term) (w : TermWalk f) where
  pub below_walk : (steps : List ℕ) (t u : Term) → below steps t ≡ Some u → below steps (f t) ≡ Some (f u)
  below_walk [] t u e = let same : t ≡ u = cc in ap (λ x. Some (f x)) same
  below_walk (n ∷ steps) t u e =
      let s = shape_of t n steps u e in
      let args : args_of t ≡ s.1 = ap args_of s.2 ∙ args_of-App s.0 s.1 in
      let args' : args_of (f t) ≡ map f s.1 = ap (λ x. args_of (f x)) s.2 ∙ ap args_of (w.app s.0 s.1) ∙ args_of-App s.0 (map f s.1) in
      let at = found_on (slice_get s.1 n) steps u (sym (ap (λ (ts : List Term). go_on (below steps) (slice_get ts n)) args) ∙ e) in
      ap (λ (ts : List Term). go_on (below steps) (slice_get ts n)) args' ∙ ap (go_on (below steps)) (get_of f s.1 n at.0 at.1) ∙ below_walk steps at.0 u at.2

  put_walk : (steps : List ℕ) (t u x : Term) → below steps t ≡ Some u → f (put_below steps x t) ≡ put_below steps (f x) (f t)
  put_walk [] t u x e = refl
  put_walk (n ∷ steps) t u x e =
      let s = shape_of t n steps u e in
      let args : args_of t ≡ s.1 = ap args_of s.2 ∙ args_of-App s.0 s.1 in
      let args' : args_of (f t) ≡ map f s.1 = ap (λ y. args_of (f y)) s.2 ∙ ap args_of (w.app s.0 s.1) ∙ args_of-App s.0 (map f s.1) in
      let at = found_on (slice_get s.1 n) steps u (sym (ap (λ (ts : List Term). go_on (below steps) (slice_get ts n)) args) ∙ e) in
      let old : put_below (n ∷ steps) x t ≡ App s.0 (slice_set s.1 n (put_below steps x at.0)) =
      ap (λ (ts : List Term). with_args t (set_on (put_below steps x) (slice_get ts n) n ts)) args ∙ ap (λ o. with_args t (set_on (put_below steps x) o n s.1)) at.1 ∙ ap (λ y. with_args y (slice_set s.1 n (put_below steps x at.0))) s.2 ∙ with_args-App s.0 s.1 (slice_set s.1 n (put_below steps x at.0)) in
      let new : put_below (n ∷ steps) (f x) (f t) ≡ App s.0 (slice_set (map f s.1) n (put_below steps (f x) (f at.0))) =
      ap (λ (ts : List Term). with_args (f t) (set_on (put_below steps (f x)) (slice_get ts n) n ts)) args' ∙ ap (λ o. with_args (f t) (set_on (put_below steps (f x)) o n (map f s.1))) (get_of f s.1 n at.0 at.1)
      ∙ ap (λ y. with_args y (slice_set (map f s.1) n (put_below steps (f x) (f at.0)))) (ap f s.2 ∙ w.app s.0 s.1) ∙ with_args-App s.0 (map f s.1) (slice_set (map f s.1) n (put_below steps (f x) (f at.0))) in
      ap f old ∙ w.app s.0 (slice_set s.1 n (put_below steps x at.0)) ∙ ap (App s.0) (map_set f s.1 n (put_below steps x at.0) ∙ ap (slice_set (map f s.1) n) (put_walk steps at.0 u x at.2)) ∙ sym new

  pub at_walk : (place : List ℕ) (ts : List Term) (u : Term) → term_at place ts ≡ Some u → term_at place (map f ts) ≡ Some (f u)
  at_walk [] ts u e = cc
  at_walk (n ∷ steps) ts u e =
      let at = found_on (slice_get ts n) steps u (sym (term_below steps n ts) ∙ e) in
      term_below steps n (map f ts) ∙ ap (go_on (below steps)) (get_of f ts n at.0 at.1) ∙ below_walk steps at.0 u at.2

  pub put_at_walk : (place : List ℕ) (ts : List Term) (u x : Term) → term_at place ts ≡ Some u → map f (put_at place x ts) ≡ put_at place (f x) (map f ts)
  put_at_walk [] ts u x e = cc
  put_at_walk (n ∷ steps) ts u x e =
      let at = found_on (slice_get ts n) steps u (sym (term_below steps n ts) ∙ e) in
      ap (map f) (put_is_below steps n x ts ∙ ap (λ o. set_on (put_below steps x) o n ts) at.1) ∙ map_set f ts n (put_below steps x at.0) ∙ ap (slice_set (map f ts) n) (put_walk steps at.0 u x at.2)
      ∙ sym (put_is_below steps n (f x) (map f ts) ∙ ap (λ o. set_on (put_below steps (f x)) o n (map f ts)) (get_of f ts n at.0 at.1))

  args_walk : (a : AtomOf) → args_of_atom (at_terms f a) ≡ map f (args_of_atom a)
  args_walk (Pred p ts) = refl
  args_walk (Eq l r) = refl
  args_walk True = refl
  args_walk False = refl

  sides_walk : (ts : List Term) → sides_of (map f ts) ≡ at_terms f (sides_of ts)
  sides_walk [] = refl
  sides_walk (l ∷ []) = refl
  sides_walk (l ∷ r ∷ ts) = refl

  with_walk : (a : AtomOf) (ts : List Term) → atom_with_args (at_terms f a) (map f ts) ≡ at_terms f (atom_with_args a ts)
  with_walk (Pred p us) ts = refl
  with_walk (Eq l r) ts = sides_walk ts
  with_walk True ts = refl
  with_walk False ts = refl

  pub lit_at_walk : (place : List ℕ) (k : Lit) (u : Term) → lit_term_at place k ≡ Some u → lit_term_at place (in_lit f k) ≡ Some (f u)
  lit_at_walk place k u e = ap (term_at place) (args_walk k.atom) ∙ at_walk place (args_of_atom k.atom) u e

  pub lit_put_walk : (place : List ℕ) (k : Lit) (u x : Term) → lit_term_at place k ≡ Some u → in_lit f (lit_put_at place x k) ≡ lit_put_at place (f x) (in_lit f k)
  lit_put_walk place k u x e =
      ap (λ (a : AtomOf). record { positive = k.positive; atom = a })
      (sym (with_walk k.atom (put_at place x (args_of_atom k.atom))) ∙ ap (atom_with_args (at_terms f k.atom)) (put_at_walk place (args_of_atom k.atom) u x e ∙ ap (put_at place (f x)) (sym (args_walk k.atom))))

-- each place at which a term stands is gone through
abbrev Has : List (List ℕ) → List ℕ → Type 0
Has ps p = (i : ℕ) × (slice_get ps i ≡ Some p)

has_at : (ps qs : List (List ℕ)) (p : List ℕ) (i : ℕ) → slice_get ps i ≡ Some p → Has (ps ++ qs) p
has_at [] qs p i e = cc
has_at (x ∷ ps) qs p zero e = (0, e)
has_at (x ∷ ps) qs p (suc i) e = let rest = has_at ps qs p i e in (suc rest.0, rest.1)

has_before : (ps qs : List (List ℕ)) (p : List ℕ) → Has ps p → Has (ps ++ qs) p
has_before ps qs p h = has_at ps qs p h.0 h.1

has_behind : (ps qs : List (List ℕ)) (p : List ℕ) → Has qs p → Has (ps ++ qs) p
has_behind [] qs p h = h
has_behind (x ∷ ps) qs p h = let rest = has_behind ps qs p h in (suc rest.0, rest.1)

abbrev Reaches : Term → Type 0
Reaches t = (pre steps : List ℕ) (u : Term) → below steps t ≡ Some u → Has (places_within t pre) (pre ++ steps)

in_numbered : (ts : List Term) → AllByRecursion Reaches ts → (pre : List ℕ) (m n : ℕ) (steps : List ℕ) (u : Term) → go_on (below steps) (slice_get ts n) ≡ Some u → Has (numbered (map places_within ts) pre m) (pre ++ (m + n) ∷ steps)
in_numbered [] all pre m n steps u e = absurd (none_here n steps u e)
in_numbered (t ∷ ts) all pre m zero steps u e =
    let h = all.0 (pre ++ m ∷ []) steps u e in
    let same : (pre ++ m ∷ []) ++ steps ≡ pre ++ (m + 0) ∷ steps = append_assoc pre (m ∷ []) steps ∙ ap (λ k. pre ++ k ∷ steps) (omega arith) in
    subst (Has (numbered (map places_within (t ∷ ts)) pre m)) same (has_before (places_within t (pre ++ m ∷ [])) (numbered (map places_within ts) pre (suc m)) ((pre ++ m ∷ []) ++ steps) h)
in_numbered (t ∷ ts) all pre m (suc n) steps u e =
    let h = in_numbered ts all.1 pre (suc m) n steps u e in
    let same : pre ++ (suc m + n) ∷ steps ≡ pre ++ (m + suc n) ∷ steps = ap (λ k. pre ++ k ∷ steps) (omega arith) in
    subst (Has (numbered (map places_within (t ∷ ts)) pre m)) same (has_behind (places_within t (pre ++ m ∷ [])) (numbered (map places_within ts) pre (suc m)) (pre ++ (suc m + n) ∷ steps) h)

reaches : (t : Term) → Reaches t
reaches = term_induction Reaches (record {
  var = at_var;
  app = at_app;
}) where
  at_var : (k : ℕ) → Reaches (Var k)
  at_var k pre [] u e = (0, ap (λ (ps : List (List ℕ)). slice_get ps 0) (places_within-Var k pre) ∙ ap Some (sym (append-nil pre)))
  at_var k pre (n ∷ steps) u e = absurd (none_here n steps u (sym (ap (λ (ts : List Term). go_on (below steps) (slice_get ts n)) (args_of-Var k)) ∙ e))

  at_app : (f : ℕ) (ts : List Term) → AllByRecursion Reaches ts → Reaches (App f ts)
  at_app f ts all pre [] u e = (0, ap (λ (ps : List (List ℕ)). slice_get ps 0) (places_within-App f ts pre) ∙ ap Some (sym (append-nil pre)))
  at_app f ts all pre (n ∷ steps) u e =
      let h = in_numbered ts all pre 0 n steps u (sym (ap (λ (us : List Term). go_on (below steps) (slice_get us n)) (args_of-App f ts)) ∙ e) in
      let same : pre ++ (0 + n) ∷ steps ≡ pre ++ n ∷ steps = ap (λ k. pre ++ k ∷ steps) (omega arith) in
      let there : Has (numbered (map places_within ts) pre 0) (pre ++ n ∷ steps) = subst (Has (numbered (map places_within ts) pre 0)) same h in
      subst (λ ps. Has ps (pre ++ n ∷ steps)) (sym (places_within-App f ts pre)) (suc there.0, there.1)

all_reach : (ts : List Term) → AllByRecursion Reaches ts
all_reach [] = tt
all_reach (t ∷ ts) = (reaches t, all_reach ts)

pub place_listed : (k : Lit) (place : List ℕ) (u : Term) → lit_term_at place k ≡ Some u → (i : ℕ) × (slice_get (places_of k) i ≡ Some place)
place_listed k [] u e = cc
place_listed k (n ∷ steps) u e =
    let ts = args_of_atom k.atom in
    let h = in_numbered ts (all_reach ts) [] 0 n steps u (sym (term_below steps n ts) ∙ e) in
    let same : (0 + n) ∷ steps ≡ n ∷ steps = ap (λ j. j ∷ steps) (omega arith) in
    subst (Has (places_of k)) same h
