-- Quantified formulas, by answers that rest on the variables looked at.
use Rattle.std.proofs.Common.{◌≡◌, ℕ, zero, suc, ◌+◌, ◌<◌, ◌&&◌, ◌||◌, ◌↔◌, IsTrue, not, Bool, true, false, List, ◌∷◌, refl, sym, ◌∙◌, ap}
use Rattle.fof_terms.specs.declared.form.Form.{Form, All, Ex}
use Rattle.fi_model.specs.declared.looked.Looked.{Looked}
use Rattle.fi_model.specs.Interpretations.{Interpretation, size, all_below, some_below, is_true}
use Rattle.fi_model.specs.code.Looks.{Sees, Agree, Rests}
use Rattle.fi_model.proofs.LookFacts.{agree_under, agree_without}
use Rattle.fi_model.proofs.TruthFacts.{is_true-All, is_true-Ex, all_below-not, some_below-yes, all_below-more, some_below-more}

all_below-each : (p : ℕ → Bool) → ((x : ℕ) → p x ≡ true) → (n : ℕ) → all_below n p ≡ true
all_below-each p each zero = refl
all_below-each p each (suc n) = rw (all_below-each p each n) (each n)

some_below-none : (p : ℕ → Bool) → ((x : ℕ) → p x ≡ false) → (n : ℕ) → some_below n p ≡ false
some_below-none p none zero = refl
some_below-none p none (suc n) = rw (some_below-none p none n) (none n)

both_yes : (a b : Bool) → a ≡ true → b ≡ true → (a && b) ≡ true
both_yes true b e f = f
both_yes false b e f = cc

both_no : (a b : Bool) → a ≡ false → b ≡ false → (a || b) ≡ false
both_no true b e f = cc
both_no false b e f = f

never : false ≡ true → ⊥
never e = cc

pub is_no : (b : Bool) → not b ≡ true → b ≡ false
is_no true e = absurd (never e)
is_no false e = refl

pub is_yes : (b : Bool) → not b ≡ false → b ≡ true
is_yes true e = refl
is_yes false e = absurd (never (sym e))

-- what the test says
pub unseen : (l : Looked) (r : Bool) → (IsTrue r ↔ Sees l 0) → r ≡ false → Sees l 0 → ⊥
unseen l true iff e s = never (sym e)
unseen l false iff e s = never (iff.1 s)

module _ (m : Interpretation) (form : Form) (here : List ℕ) (l o : Looked) (b : Bool) (x : ℕ) (found : Rests (λ elements. is_true m elements form) (x ∷ here) b l) (out : (d : ℕ) → Sees l (d + 1) → Sees o d) (there : List ℕ) (agree : Agree o here there) where
  at_element : is_true m (x ∷ there) form ≡ b
  at_element = found (x ∷ there) (agree_under l o here there out agree x)

  at_each : (Sees l 0 → ⊥) → (y : ℕ) → is_true m (y ∷ there) form ≡ b
  at_each none y = found (y ∷ there) (agree_without l o here there out agree x y none)

  pub all_no : (n : ℕ) → x < n → b ≡ false → all_below n (λ y. is_true m (y ∷ there) form) ≡ false
  all_no n lt e = all_below-not (λ y. is_true m (y ∷ there) form) n x lt (at_element ∙ e)

  pub all_each : (n : ℕ) → (Sees l 0 → ⊥) → b ≡ true → all_below n (λ y. is_true m (y ∷ there) form) ≡ true
  all_each n none e = all_below-each (λ y. is_true m (y ∷ there) form) (λ y. at_each none y ∙ e) n

  pub all_more : b ≡ true → all_below x (λ y. is_true m (y ∷ there) form) ≡ true → all_below (x + 1) (λ y. is_true m (y ∷ there) form) ≡ true
  all_more e before = all_below-more (λ y. is_true m (y ∷ there) form) x ∙ both_yes (all_below x (λ y. is_true m (y ∷ there) form)) (is_true m (x ∷ there) form) before (at_element ∙ e)

  pub some_yes : (n : ℕ) → x < n → b ≡ true → some_below n (λ y. is_true m (y ∷ there) form) ≡ true
  some_yes n lt e = some_below-yes (λ y. is_true m (y ∷ there) form) n x lt (at_element ∙ e)

  pub some_none : (n : ℕ) → (Sees l 0 → ⊥) → b ≡ false → some_below n (λ y. is_true m (y ∷ there) form) ≡ false
  some_none n none e = some_below-none (λ y. is_true m (y ∷ there) form) (λ y. at_each none y ∙ e) n

  pub some_more : b ≡ false → some_below x (λ y. is_true m (y ∷ there) form) ≡ false → some_below (x + 1) (λ y. is_true m (y ∷ there) form) ≡ false
  some_more e before = some_below-more (λ y. is_true m (y ∷ there) form) x ∙ both_no (some_below x (λ y. is_true m (y ∷ there) form)) (is_true m (x ∷ there) form) before (at_element ∙ e)

module _ (m : Interpretation) (there : List ℕ) (a : Form) (s : ℕ) (inner body : Form) (b : Bool) where
  pub all_at : a ≡ All s inner → body ≡ inner → all_below (size m.domains s) (λ y. is_true m (y ∷ there) body) ≡ b → is_true m there a ≡ b
  all_at is same h = ap (is_true m there) (is ∙ ap (All s) (sym same)) ∙ is_true-All m there s body ∙ h

  pub some_at : a ≡ Ex s inner → body ≡ inner → some_below (size m.domains s) (λ y. is_true m (y ∷ there) body) ≡ b → is_true m there a ≡ b
  some_at is same h = ap (is_true m there) (is ∙ ap (Ex s) (sym same)) ∙ is_true-Ex m there s body ∙ h
