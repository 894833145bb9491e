-- Lemmas on what specs/Interpretations defines.
use Rattle.std.specs.Prelude.{ℕ, zero, suc, ◌≡◌, ◌+◌, ◌<◌, ◌==◌, ◌&&◌, ◌||◌, not, Bool, true, false, List, ◌∷◌, map, get_or, refl}
use Rattle.std.specs.List.{list_all, list_any}
use Rattle.std.proofs.Common.{ap, ◌∙◌, arith, add-one, ⊎_elim, nat_lt}
use Rattle.std.proofs.lemmas.Bool.{cases_Bool}
use Rattle.std.proofs.lemmas.Bool.Decides.{nat_tests}
use Rattle.std.proofs.lemmas.List.Folds.{list_all-map}
use Rattle.fof_terms.proofs.OccursFacts.{list_any-map}
use Rattle.fof_terms.proofs.Trees.{fold-Var, fold-App, fold-Atom, fold-Eq, fold-Not, fold-And, fold-Or, fold-Imp, fold-Iff, fold-All, fold-Ex}
use Rattle.fof_terms.specs.declared.term.Term.{Term, Var, App}
use Rattle.fof_terms.specs.declared.form.Form.{Form, Atom, Eq, Not, And, Or, Imp, Iff, All, Ex}
use Rattle.fi_model.specs.Interpretations.{Interpretation, size, value_step, value_of, all_below, some_below, is_same, truth_step, is_true}

-- The equations of these words.
pub value_of-Var : (m : Interpretation) (scope : List ℕ) (k : ℕ) → value_of m scope (Var k) ≡ get_or scope k 0
unfolding value_of
value_of-Var m scope k = fold-Var ℕ (value_step m scope) k

pub value_of-App : (m : Interpretation) (scope : List ℕ) (f : ℕ) (ts : List Term) → value_of m scope (App f ts) ≡ m.value f (map (value_of m scope) ts)
unfolding value_of
value_of-App m scope f ts = fold-App ℕ (value_step m scope) f ts

pub ruleset value_equations = (value_of-Var, value_of-App)

module _ (m : Interpretation) (scope : List ℕ) where
  pub is_true-Atom : (p : ℕ) (ts : List Term) → is_true m scope (Atom p ts) ≡ (m.value p (map (value_of m scope) ts) == 1)
  unfolding is_true
  is_true-Atom p ts = ap (λ g. g scope) (fold-Atom (List ℕ → Bool) (truth_step m) p ts)

  pub is_true-Eq : (l r : Term) → is_true m scope (Eq l r) ≡ (value_of m scope l == value_of m scope r)
  unfolding is_true
  is_true-Eq l r = ap (λ g. g scope) (fold-Eq (List ℕ → Bool) (truth_step m) l r)

  pub is_true-Not : (a : Form) → is_true m scope (Not a) ≡ not (is_true m scope a)
  unfolding is_true
  is_true-Not a = ap (λ g. g scope) (fold-Not (List ℕ → Bool) (truth_step m) a)

  pub is_true-And : (as_ : List Form) → is_true m scope (And as_) ≡ list_all (is_true m scope) as_
  unfolding is_true
  is_true-And as_ = ap (λ g. g scope) (fold-And (List ℕ → Bool) (truth_step m) as_) ∙ list_all-map (λ a. a scope) _ as_

  pub is_true-Or : (as_ : List Form) → is_true m scope (Or as_) ≡ list_any (is_true m scope) as_
  unfolding is_true
  is_true-Or as_ = ap (λ g. g scope) (fold-Or (List ℕ → Bool) (truth_step m) as_) ∙ list_any-map (λ a. a scope) _ as_

  pub is_true-Imp : (a b : Form) → is_true m scope (Imp a b) ≡ (not (is_true m scope a) || is_true m scope b)
  unfolding is_true
  is_true-Imp a b = ap (λ g. g scope) (fold-Imp (List ℕ → Bool) (truth_step m) a b)

  pub is_true-Iff : (a b : Form) → is_true m scope (Iff a b) ≡ is_same (is_true m scope a) (is_true m scope b)
  unfolding is_true
  is_true-Iff a b = ap (λ g. g scope) (fold-Iff (List ℕ → Bool) (truth_step m) a b)

  pub is_true-All : (s : ℕ) (a : Form) → is_true m scope (All s a) ≡ all_below (size m.domains s) (λ x. is_true m (x ∷ scope) a)
  unfolding is_true
  is_true-All s a = ap (λ g. g scope) (fold-All (List ℕ → Bool) (truth_step m) s a)

  pub is_true-Ex : (s : ℕ) (a : Form) → is_true m scope (Ex s a) ≡ some_below (size m.domains s) (λ x. is_true m (x ∷ scope) a)
  unfolding is_true
  is_true-Ex s a = ap (λ g. g scope) (fold-Ex (List ℕ → Bool) (truth_step m) s a)

pub ruleset truth_equations = (is_true-Atom, is_true-Eq, is_true-Not, is_true-And, is_true-Or, is_true-Imp, is_true-Iff, is_true-All, is_true-Ex)

-- one more number
pub all_below-more : (p : ℕ → Bool) (n : ℕ) → all_below (n + 1) p ≡ (all_below n p && p n)
all_below-more p n = rw add-one refl

pub some_below-more : (p : ℕ → Bool) (n : ℕ) → some_below (n + 1) p ≡ (some_below n p || p n)
some_below-more p n = rw add-one refl

-- a number decides
pub all_below-not : (p : ℕ → Bool) (n x : ℕ) → x < n → p x ≡ false → all_below n p ≡ false
all_below-not p zero x lt e = absurd (omega arith)
all_below-not p (suc n) x lt e =
    ⊎_elim
    (λ y. rw (all_below-not p n x (grind (arith, nat_tests, y)) e) refl)
    (λ f. let same : x ≡ n = grind (arith, nat_tests, f) in let here : p n ≡ false = rw (← same) e in rw here (and_no (all_below n p)))
    (cases_Bool (nat_lt x n))
  where
    and_no : (b : Bool) → (b && false) ≡ false
    and_no true = refl
    and_no false = refl

pub some_below-yes : (p : ℕ → Bool) (n x : ℕ) → x < n → p x ≡ true → some_below n p ≡ true
some_below-yes p zero x lt e = absurd (omega arith)
some_below-yes p (suc n) x lt e =
    ⊎_elim
    (λ y. rw (some_below-yes p n x (grind (arith, nat_tests, y)) e) refl)
    (λ f. let same : x ≡ n = grind (arith, nat_tests, f) in let here : p n ≡ true = rw (← same) e in rw here (or_yes (some_below n p)))
    (cases_Bool (nat_lt x n))
  where
    or_yes : (b : Bool) → (b || true) ≡ true
    or_yes true = refl
    or_yes false = refl
