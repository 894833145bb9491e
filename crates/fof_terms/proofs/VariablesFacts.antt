-- Lemmas on what specs/Variables defines.
use Rattle.std.specs.Prelude.{ℕ, ◌+◌, ◌==◌, ◌||◌, Bool, List, ◌≡◌}
use Rattle.std.specs.List.{list_any}
use Rattle.std.proofs.Common.{ap, ◌∙◌}
use Rattle.fof_terms.proofs.OccursFacts.{list_any-map}
use Rattle.fof_terms.proofs.Trees.{fold-Var, fold-App, fold-Atom, fold-Eq, fold-Not, fold-And, fold-Or, fold-Imp, fold-Iff, fold-All, fold-Ex}
use Rattle.fof_terms.specs.declared.term.Term.{Term, Var, App}
use Rattle.fof_terms.specs.declared.term.Term.TheFolds.{fold-Term}
use Rattle.fof_terms.specs.declared.form.Form.{Form, Atom, Eq, Not, And, Or, Imp, Iff, All, Ex}
use Rattle.fof_terms.specs.declared.form.Form.TheFolds.{fold-Form}
use Rattle.fof_terms.specs.Variables.{has_in_term_step, has_in_term, has_variable_step, has_variable}
use Rattle.fof_terms.specs.declared.term.Term.TheOpen as term
use Rattle.fof_terms.specs.declared.form.Form.TheOpen as form

-- The equations of these words.
pub has_in_term-Var : (n k : ℕ) → has_in_term n (Var k) ≡ (k == n)
unfolding has_in_term
has_in_term-Var n k = fold-Var Bool (has_in_term_step n) k

pub has_in_term-App : (n f : ℕ) (ts : List Term) → has_in_term n (App f ts) ≡ list_any (has_in_term n) ts
unfolding has_in_term
has_in_term-App n f ts = fold-App Bool (has_in_term_step n) f ts ∙ list_any-map (λ b. b) _ ts

pub has_variable-Atom : (n : ℕ) (p : ℕ) (ts : List Term) → has_variable n (Atom p ts) ≡ list_any (has_in_term n) ts
unfolding has_variable
has_variable-Atom n p ts = ap (λ g. g n) (fold-Atom (ℕ → Bool) (has_variable_step) p ts)

pub has_variable-Eq : (n : ℕ) (s t : Term) → has_variable n (Eq s t) ≡ (has_in_term n s || has_in_term n t)
unfolding has_variable
has_variable-Eq n s t = ap (λ g. g n) (fold-Eq (ℕ → Bool) (has_variable_step) s t)

pub has_variable-Not : (n : ℕ) (a : Form) → has_variable n (Not a) ≡ has_variable n a
unfolding has_variable
has_variable-Not n a = ap (λ g. g n) (fold-Not (ℕ → Bool) (has_variable_step) a)

pub has_variable-And : (n : ℕ) (as_ : List Form) → has_variable n (And as_) ≡ list_any (has_variable n) as_
unfolding has_variable
has_variable-And n as_ = ap (λ g. g n) (fold-And (ℕ → Bool) (has_variable_step) as_) ∙ list_any-map (λ a. a n) _ as_

pub has_variable-Or : (n : ℕ) (as_ : List Form) → has_variable n (Or as_) ≡ list_any (has_variable n) as_
unfolding has_variable
has_variable-Or n as_ = ap (λ g. g n) (fold-Or (ℕ → Bool) (has_variable_step) as_) ∙ list_any-map (λ a. a n) _ as_

pub has_variable-Imp : (n : ℕ) (a b : Form) → has_variable n (Imp a b) ≡ (has_variable n a || has_variable n b)
unfolding has_variable
has_variable-Imp n a b = ap (λ g. g n) (fold-Imp (ℕ → Bool) (has_variable_step) a b)

pub has_variable-Iff : (n : ℕ) (a b : Form) → has_variable n (Iff a b) ≡ (has_variable n a || has_variable n b)
unfolding has_variable
has_variable-Iff n a b = ap (λ g. g n) (fold-Iff (ℕ → Bool) (has_variable_step) a b)

pub has_variable-All : (n : ℕ) (s : ℕ) (a : Form) → has_variable n (All s a) ≡ has_variable (n + 1) a
unfolding has_variable
has_variable-All n s a = ap (λ g. g n) (fold-All (ℕ → Bool) (has_variable_step) s a)

pub has_variable-Ex : (n : ℕ) (s : ℕ) (a : Form) → has_variable n (Ex s a) ≡ has_variable (n + 1) a
unfolding has_variable
has_variable-Ex n s a = ap (λ g. g n) (fold-Ex (ℕ → Bool) (has_variable_step) s a)

pub ruleset has_variable_equations = (has_variable-Atom, has_variable-Eq, has_variable-Not, has_variable-And, has_variable-Or, has_variable-Imp, has_variable-Iff, has_variable-All, has_variable-Ex)

pub ruleset variable_equations = (has_in_term-Var, has_in_term-App, has_variable_equations)
