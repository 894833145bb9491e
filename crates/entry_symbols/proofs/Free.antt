-- Formulas and terms in which some symbols do not stand, taken together and apart.
use Rattle.std.specs.Prelude.{ℕ, ◌≡◌, ◌+◌, ◌==◌, ◌&&◌, ◌||◌, Bool, true, false, List, [], ◌∷◌, Some, slice_get, refl}
use Rattle.std.specs.List.{AllByRecursion, list_any}
use Rattle.std.proofs.Common.{ap, sym, ◌∙◌, subst, eq-eqb, zero, suc, inl, inr}
use Rattle.std.proofs.lemmas.Bool.{lt-ltb, le-ltb}
use Rattle.fof_terms.specs.declared.term.Term.{Term, Var, App}
use Rattle.fof_terms.specs.declared.form.Form.{Form, Atom, Eq, Not, And, Or, Imp, Iff, All, Ex}
use Rattle.fof_terms.specs.Occurs.{occurs_in, occurs_in_term}
use Rattle.fof_terms.specs.Instance.{instance_at}
use Rattle.fof_terms.specs.Lift.{lifted, lifted_term}
use Rattle.fof_terms.specs.Variables.{has_variable}
use Rattle.fof_terms.proofs.LiftFacts.{lifted_term-Var}
use Rattle.fof_terms.proofs.LiftingLaws.{below_or_above}
use Rattle.fof_terms.proofs.Walks.{lifting, lifting_term}
use Rattle.fof_terms.proofs.OccursFacts.{occurs_in_term-Var, occurs_in_term-App, occurs_in-Atom, occurs_in-Eq, occurs_in-Not, occurs_in-And, occurs_in-Or, occurs_in-Imp, occurs_in-Iff, occurs_in-All, occurs_in-Ex}
use Rattle.kernel.specs.Proves.{over, all_over}
use Rattle.verifier.proofs.Citing.{or_false}
use Rattle.entry_symbols.proofs.Clashing.{none_of_two}
use Rattle.skolem_fresh.proofs.Occurring.{instance_occurs, walk_occurs, walk_term_occurs}

-- ---- one symbol

module _ (k : ℕ) where
  variable_lacks : (n j : ℕ) → occurs_in_term k (lifted_term 1 n (Var j)) ≡ false
  variable_lacks n j = elim (below_or_above j n) [
    | inl near ↦ rw (lifted_term-Var, lt-ltb j n near) (occurs_in_term-Var k j)
    | inr far ↦ rw (lifted_term-Var, le-ltb j n far) (occurs_in_term-Var k (j + 1))
  ]

  over_occurs : (a : Form) → occurs_in k (over a) ≡ occurs_in k a
  over_occurs a = walk_occurs k (lifted_term 1) (lifted 1) (lifting 1 (λ d. d) (λ d. refl)) (λ d. walk_term_occurs k (lifted_term 1 d) (lifting_term 1 d) (variable_lacks d)) a 0

  and_false : (has own : Bool) → own ≡ false → (has && own) ≡ false
  and_false true own is = is
  and_false false own is = refl

  instance_lacks : (x : Term) (a : Form) (d : ℕ) → occurs_in_term k x ≡ false → occurs_in k a ≡ false → occurs_in k (instance_at x d a) ≡ false
  instance_lacks x a d value own = instance_occurs k x a d ∙ none_of_two (occurs_in k a) (has_variable d a && occurs_in_term k x) own (and_false (has_variable d a) (occurs_in_term k x) value)

  any_lack : (as_ : List Form) → AllByRecursion (λ a. occurs_in k a ≡ false) as_ → list_any (occurs_in k) as_ ≡ false
  any_lack [] all = refl
  any_lack (a ∷ as_) all = none_of_two (occurs_in k a) (list_any (occurs_in k) as_) all.0 (any_lack as_ all.1)

  at_lacks : (as_ : List Form) (i : ℕ) (a : Form) → list_any (occurs_in k) as_ ≡ false → slice_get as_ i ≡ Some a → occurs_in k a ≡ false
  at_lacks [] i a none at = absurd (cc)
  at_lacks (b ∷ as_) zero a none at = let same : b ≡ a = cc in ap (occurs_in k) (sym same) ∙ (or_false (occurs_in k b) (list_any (occurs_in k) as_) none).0
  at_lacks (b ∷ as_) (suc i) a none at = at_lacks as_ i a (or_false (occurs_in k b) (list_any (occurs_in k) as_) none).1 at

-- ---- some symbols

module _ (K : ℕ → Type 0) where
  abbrev pub IsFreeTerm : Term → Type 0
  IsFreeTerm x = (k : ℕ) → K k → occurs_in_term k x ≡ false

  abbrev pub IsFree : Form → Type 0
  IsFree a = (k : ℕ) → K k → occurs_in k a ≡ false

  abbrev pub AreFree : List Form → Type 0
  AreFree h = (i : ℕ) (a : Form) → slice_get h i ≡ Some a → IsFree a

  abbrev pub AreFreeTerms : List Term → Type 0
  AreFreeTerms ts = (k : ℕ) → K k → list_any (occurs_in_term k) ts ≡ false

  -- none of the symbols is the head, or stands in an argument
  abbrev LackHeadAndArguments : ℕ → List Term → Type 0
  LackHeadAndArguments f ts = (k : ℕ) → K k → ((f == k) || list_any (occurs_in_term k) ts) ≡ false

  no_head : (f : ℕ) (ts : List Term) → LackHeadAndArguments f ts → K f → ⊥
  no_head f ts lack is =
      let one : true ≡ false = sym (eq-eqb f f refl) ∙ (or_false (f == f) (list_any (occurs_in_term f) ts) (lack f is)).0 in
      absurd (cc)

  free_arguments : (f : ℕ) (ts : List Term) → LackHeadAndArguments f ts → AreFreeTerms ts
  free_arguments f ts lack k is = (or_false (f == k) (list_any (occurs_in_term k) ts) (lack k is)).1

  app_lacks : (f : ℕ) (ts : List Term) → IsFreeTerm (App f ts) → LackHeadAndArguments f ts
  app_lacks f ts free k is = sym (occurs_in_term-App k f ts) ∙ free k is

  atom_lacks : (p : ℕ) (ts : List Term) → IsFree (Atom p ts) → LackHeadAndArguments p ts
  atom_lacks p ts free k is = sym (occurs_in-Atom k p ts) ∙ free k is

  -- the head of an application or an atom, and its arguments
  pub app_head : (f : ℕ) (ts : List Term) → IsFreeTerm (App f ts) → K f → ⊥
  app_head f ts free = no_head f ts (app_lacks f ts free)

  pub app_args : (f : ℕ) (ts : List Term) → IsFreeTerm (App f ts) → AreFreeTerms ts
  app_args f ts free = free_arguments f ts (app_lacks f ts free)

  pub atom_head : (p : ℕ) (ts : List Term) → IsFree (Atom p ts) → K p → ⊥
  atom_head p ts free = no_head p ts (atom_lacks p ts free)

  pub atom_args : (p : ℕ) (ts : List Term) → IsFree (Atom p ts) → AreFreeTerms ts
  atom_args p ts free = free_arguments p ts (atom_lacks p ts free)

  pub first_term : (t : Term) (ts : List Term) → AreFreeTerms (t ∷ ts) → IsFreeTerm t
  first_term t ts free k is = (or_false (occurs_in_term k t) (list_any (occurs_in_term k) ts) (free k is)).0

  pub later_terms : (t : Term) (ts : List Term) → AreFreeTerms (t ∷ ts) → AreFreeTerms ts
  later_terms t ts free k is = (or_false (occurs_in_term k t) (list_any (occurs_in_term k) ts) (free k is)).1

  -- parts
  pub eq_left : (l r : Term) → IsFree (Eq l r) → IsFreeTerm l
  eq_left l r free k is = (or_false (occurs_in_term k l) (occurs_in_term k r) (sym (occurs_in-Eq k l r) ∙ free k is)).0

  pub eq_right : (l r : Term) → IsFree (Eq l r) → IsFreeTerm r
  eq_right l r free k is = (or_false (occurs_in_term k l) (occurs_in_term k r) (sym (occurs_in-Eq k l r) ∙ free k is)).1

  pub of_not : (a : Form) → IsFree (Not a) → IsFree a
  of_not a free k is = sym (occurs_in-Not k a) ∙ free k is

  pub of_and : (as_ : List Form) → IsFree (And as_) → AreFree as_
  of_and as_ free i a at k is = at_lacks k as_ i a (sym (occurs_in-And k as_) ∙ free k is) at

  pub of_or : (as_ : List Form) → IsFree (Or as_) → AreFree as_
  of_or as_ free i a at k is = at_lacks k as_ i a (sym (occurs_in-Or k as_) ∙ free k is) at

  pub imp_left : (a b : Form) → IsFree (Imp a b) → IsFree a
  imp_left a b free k is = (or_false (occurs_in k a) (occurs_in k b) (sym (occurs_in-Imp k a b) ∙ free k is)).0

  pub imp_right : (a b : Form) → IsFree (Imp a b) → IsFree b
  imp_right a b free k is = (or_false (occurs_in k a) (occurs_in k b) (sym (occurs_in-Imp k a b) ∙ free k is)).1

  pub iff_left : (a b : Form) → IsFree (Iff a b) → IsFree a
  iff_left a b free k is = (or_false (occurs_in k a) (occurs_in k b) (sym (occurs_in-Iff k a b) ∙ free k is)).0

  pub iff_right : (a b : Form) → IsFree (Iff a b) → IsFree b
  iff_right a b free k is = (or_false (occurs_in k a) (occurs_in k b) (sym (occurs_in-Iff k a b) ∙ free k is)).1

  pub of_all : (s : ℕ) (a : Form) → IsFree (All s a) → IsFree a
  of_all s a free k is = sym (occurs_in-All k s a) ∙ free k is

  pub of_ex : (s : ℕ) (a : Form) → IsFree (Ex s a) → IsFree a
  of_ex s a free k is = sym (occurs_in-Ex k s a) ∙ free k is

  -- wholes
  pub free_eq : (l r : Term) → IsFreeTerm l → IsFreeTerm r → IsFree (Eq l r)
  free_eq l r left right k is = occurs_in-Eq k l r ∙ none_of_two (occurs_in_term k l) (occurs_in_term k r) (left k is) (right k is)

  pub free_not : (a : Form) → IsFree a → IsFree (Not a)
  free_not a free k is = occurs_in-Not k a ∙ free k is

  each_at : (k : ℕ) → K k → (as_ : List Form) → AllByRecursion IsFree as_ → AllByRecursion (λ a. occurs_in k a ≡ false) as_
  each_at k is [] all = tt
  each_at k is (a ∷ as_) all = (all.0 k is, each_at k is as_ all.1)

  pub free_and : (as_ : List Form) → AllByRecursion IsFree as_ → IsFree (And as_)
  free_and as_ all k is = occurs_in-And k as_ ∙ any_lack k as_ (each_at k is as_ all)

  pub free_or : (as_ : List Form) → ((k : ℕ) → K k → AllByRecursion (λ a. occurs_in k a ≡ false) as_) → IsFree (Or as_)
  free_or as_ all k is = occurs_in-Or k as_ ∙ any_lack k as_ (all k is)

  pub free_falsehood : IsFree (Or [])
  free_falsehood k is = occurs_in-Or k []

  pub free_imp : (a b : Form) → IsFree a → IsFree b → IsFree (Imp a b)
  free_imp a b left right k is = occurs_in-Imp k a b ∙ none_of_two (occurs_in k a) (occurs_in k b) (left k is) (right k is)

  pub free_iff : (a b : Form) → IsFree a → IsFree b → IsFree (Iff a b)
  free_iff a b left right k is = occurs_in-Iff k a b ∙ none_of_two (occurs_in k a) (occurs_in k b) (left k is) (right k is)

  pub free_all : (s : ℕ) (a : Form) → IsFree a → IsFree (All s a)
  free_all s a free k is = occurs_in-All k s a ∙ free k is

  pub free_ex : (s : ℕ) (a : Form) → IsFree a → IsFree (Ex s a)
  free_ex s a free k is = occurs_in-Ex k s a ∙ free k is

  pub free_over : (a : Form) → IsFree a → IsFree (over a)
  free_over a free k is = over_occurs k a ∙ free k is

  pub free_instance : (x : Term) (a : Form) → IsFreeTerm x → IsFree a → IsFree (instance_at x 0 a)
  free_instance x a value free k is = instance_lacks k x a 0 (value k is) (free k is)

  pub free_before : (a : Form) (h : List Form) → IsFree a → AreFree h → AreFree (a ∷ h)
  free_before a h free all zero b at = let same : a ≡ b = cc in subst IsFree same free
  free_before a h free all (suc i) b at = all i b at

  pub free_none : AreFree []
  free_none i a at = absurd (cc)

  pub free_above : (h : List Form) → AreFree h → AreFree (all_over h)
  free_above [] all i a at = absurd (cc)
  free_above (b ∷ h) all zero a at = let same : over b ≡ a = cc in subst IsFree same (free_over b (all 0 b refl))
  free_above (b ∷ h) all (suc i) a at = free_above h (λ j. all (suc j)) i a at
