-- Changes of terms that agree on terms in which allowed numbers alone stand.
use Rattle.std.specs.Prelude.{ℕ, ◌≡◌, ◌==◌, ◌||◌, ◌⊎◌, Bool, true, false, List, [], ◌∷◌, map, Some, slice_get, refl}
use Rattle.std.specs.List.{AllByRecursion, list_any}
use Rattle.std.proofs.Common.{ap, subst, ◌∙◌, eq-eqb, zero, suc, inl, inr}
use Rattle.fof_terms.specs.declared.term.Term.{Term, App}
use Rattle.fof_terms.specs.Occurs.{occurs_in_term}
use Rattle.fof_terms.proofs.OccursFacts.{occurs_in_term-App}
use Rattle.clause_form.specs.declared.clause.AtomOf.{AtomOf}
use Rattle.clause_form.specs.declared.clause.AtomOf.TheVariants.{Pred, Eq, True, False}
use Rattle.clause_form.specs.declared.clause.Lit.{Lit}
use Rattle.clause_form.specs.Covers.{at_terms, in_lit}
use Rattle.clause_rules.specs.Places.{args_of_atom}

pub or_true : (b : Bool) → (b || true) ≡ true
or_true true = refl
or_true false = refl

pub either : (a b : Bool) → (a || b) ≡ true → (a ≡ true) ⊎ (b ≡ true)
either true b e = inl refl
either false b e = inr e

pub agree_where : {X Y : Type 0} (P : X → Type 0) (f g : X → Y) (xs : List X) → AllByRecursion (λ x. P x → f x ≡ g x) xs → AllByRecursion P xs → map f xs ≡ map g xs
agree_where P f g [] e h = refl
agree_where P f g (x ∷ xs) e h = rw (e.0 h.0, agree_where P f g xs e.1 h.1) refl

module _ (test : ℕ → Term → Bool) (Allowed : ℕ → Type 0) where
  -- each number that passes at the term is allowed
  abbrev pub IsGood : Term → Type 0
  IsGood t = (k : ℕ) → test k t ≡ true → Allowed k

  abbrev pub AreGood : List Term → Type 0
  AreGood ts = (k : ℕ) → list_any (test k) ts ≡ true → Allowed k

  abbrev pub AreGoodLits : List Lit → Type 0
  AreGoodLits lits = (k : ℕ) → list_any (λ (l : Lit). list_any (test k) (args_of_atom l.atom)) lits ≡ true → Allowed k

  pub first_good : (t : Term) (ts : List Term) → AreGood (t ∷ ts) → IsGood t
  first_good t ts h k e = h k (ap (λ (b : Bool). b || list_any (test k) ts) e)

  pub rest_good : (t : Term) (ts : List Term) → AreGood (t ∷ ts) → AreGood ts
  rest_good t ts h k e = h k (ap (λ (b : Bool). test k t || b) e ∙ or_true (test k t))

  pub each_good : (ts : List Term) → AreGood ts → AllByRecursion IsGood ts
  each_good [] h = tt
  each_good (t ∷ ts) h = (first_good t ts h, each_good ts (rest_good t ts h))

  pub first_lit : (l : Lit) (lits : List Lit) → AreGoodLits (l ∷ lits) → AreGood (args_of_atom l.atom)
  first_lit l lits h k e = h k (ap (λ (b : Bool). b || list_any (λ (m : Lit). list_any (test k) (args_of_atom m.atom)) lits) e)

  pub rest_lits : (l : Lit) (lits : List Lit) → AreGoodLits (l ∷ lits) → AreGoodLits lits
  rest_lits l lits h k e = h k (ap (λ (b : Bool). list_any (test k) (args_of_atom l.atom) || b) e ∙ or_true (list_any (test k) (args_of_atom l.atom)))

  pub good_lit_at : (lits : List Lit) (i : ℕ) (l : Lit) → AreGoodLits lits → slice_get lits i ≡ Some l → AreGood (args_of_atom l.atom)
  good_lit_at [] i l h e = cc
  good_lit_at (m ∷ lits) zero l h e = let same : m ≡ l = cc in subst (λ (x : Lit). AreGood (args_of_atom x.atom)) same (first_lit m lits h)
  good_lit_at (m ∷ lits) (suc i) l h e = good_lit_at lits i l (rest_lits m lits h) e

  module _ (f g : Term → Term) (same : (t : Term) → IsGood t → f t ≡ g t) where
    pub terms_same : (ts : List Term) → AreGood ts → map f ts ≡ map g ts
    terms_same [] h = refl
    terms_same (t ∷ ts) h = rw (same t (first_good t ts h), terms_same ts (rest_good t ts h)) refl

    atom_same : (a : AtomOf) → AreGood (args_of_atom a) → at_terms f a ≡ at_terms g a
    atom_same (Pred p ts) h = ap (Pred p) (terms_same ts h)
    atom_same (Eq l r) h = rw (same l (first_good l (r ∷ []) h), same r (first_good r [] (rest_good l (r ∷ []) h))) refl
    atom_same True h = refl
    atom_same False h = refl

    pub lits_same : (lits : List Lit) → AreGoodLits lits → map (in_lit f) lits ≡ map (in_lit g) lits
    lits_same [] h = refl
    lits_same (l ∷ lits) h = rw (atom_same l.atom (first_lit l lits h), lits_same lits (rest_lits l lits h)) refl

-- the functions of an application
module _ (Allowed : ℕ → Type 0) (f : ℕ) (ts : List Term) (h : IsGood occurs_in_term Allowed (App f ts)) where
  pub head_good : Allowed f
  head_good = h f (occurs_in_term-App f f ts ∙ ap (λ (b : Bool). b || list_any (occurs_in_term f) ts) (eq-eqb f f refl))

  pub args_good : AllByRecursion (IsGood occurs_in_term Allowed) ts
  args_good = each_good occurs_in_term Allowed ts (λ k e. h k (occurs_in_term-App k f ts ∙ ap (λ (b : Bool). (f == k) || b) e ∙ or_true (f == k)))
