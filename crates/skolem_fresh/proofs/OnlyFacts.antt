-- Lemmas on what specs/code/Only defines.
use Rattle.std.specs.Prelude.{ℕ, ◌+◌, ◌-◌, ◌==◌, ◌||◌, ◌&&◌, ◌≡◌, nat_lt, Bool, List, map}
use Rattle.std.specs.List.{list_any, list_all}
use Rattle.std.proofs.Common.{ap, ◌∙◌}
use Rattle.std.proofs.lemmas.List.Folds.{list_all-map}
use Rattle.fof_terms.proofs.Trees.{fold-Var, fold-App, fold-Atom, fold-Eq, fold-Not, fold-And, fold-Or, fold-Imp, fold-Iff, fold-All, fold-Ex}
use Rattle.fof_terms.specs.declared.term.Term.{Term, Var, App}
use Rattle.fof_terms.specs.declared.term.Term.TheFolds.{fold-Term}
use Rattle.fof_terms.specs.declared.form.Form.{Form, Atom, Eq, Not, And, Or, Imp, Iff, All, Ex}
use Rattle.fof_terms.specs.declared.form.Form.TheFolds.{fold-Form}
use Rattle.fof_terms.specs.Standing.{is_listed}
use Rattle.skolem_fresh.specs.code.Only.{only_term_step, only_in_term, only_step, only_has}
use Rattle.fof_terms.specs.declared.term.Term.TheOpen as term
use Rattle.fof_terms.specs.declared.form.Form.TheOpen as form

-- The equations of these words.
pub only_in_term-Var : (xs : List ℕ) (depth k : ℕ) → only_in_term xs depth (Var k) ≡ (nat_lt k depth || is_listed xs (k - depth))
unfolding only_in_term
only_in_term-Var xs depth k = fold-Var Bool (only_term_step xs depth) k

pub only_in_term-App : (xs : List ℕ) (depth f : ℕ) (ts : List Term) → only_in_term xs depth (App f ts) ≡ list_all (only_in_term xs depth) ts
unfolding only_in_term
only_in_term-App xs depth f ts = fold-App Bool (only_term_step xs depth) f ts ∙ list_all-map (λ b. b) _ ts

pub only_has-Atom : (xs : List ℕ) (depth : ℕ) (p : ℕ) (ts : List Term) → only_has xs depth (Atom p ts) ≡ list_all (only_in_term xs depth) ts
unfolding only_has
only_has-Atom xs depth p ts = ap (λ g. g depth) (fold-Atom (ℕ → Bool) (only_step xs) p ts)

pub only_has-Eq : (xs : List ℕ) (depth : ℕ) (l r : Term) → only_has xs depth (Eq l r) ≡ (only_in_term xs depth l && only_in_term xs depth r)
unfolding only_has
only_has-Eq xs depth l r = ap (λ g. g depth) (fold-Eq (ℕ → Bool) (only_step xs) l r)

pub only_has-Not : (xs : List ℕ) (depth : ℕ) (a : Form) → only_has xs depth (Not a) ≡ only_has xs depth a
unfolding only_has
only_has-Not xs depth a = ap (λ g. g depth) (fold-Not (ℕ → Bool) (only_step xs) a)

pub only_has-And : (xs : List ℕ) (depth : ℕ) (as_ : List Form) → only_has xs depth (And as_) ≡ list_all (only_has xs depth) as_
unfolding only_has
only_has-And xs depth as_ = ap (λ g. g depth) (fold-And (ℕ → Bool) (only_step xs) as_) ∙ list_all-map (λ a. a depth) _ as_

pub only_has-Or : (xs : List ℕ) (depth : ℕ) (as_ : List Form) → only_has xs depth (Or as_) ≡ list_all (only_has xs depth) as_
unfolding only_has
only_has-Or xs depth as_ = ap (λ g. g depth) (fold-Or (ℕ → Bool) (only_step xs) as_) ∙ list_all-map (λ a. a depth) _ as_

pub only_has-Imp : (xs : List ℕ) (depth : ℕ) (a b : Form) → only_has xs depth (Imp a b) ≡ (only_has xs depth a && only_has xs depth b)
unfolding only_has
only_has-Imp xs depth a b = ap (λ g. g depth) (fold-Imp (ℕ → Bool) (only_step xs) a b)

pub only_has-Iff : (xs : List ℕ) (depth : ℕ) (a b : Form) → only_has xs depth (Iff a b) ≡ (only_has xs depth a && only_has xs depth b)
unfolding only_has
only_has-Iff xs depth a b = ap (λ g. g depth) (fold-Iff (ℕ → Bool) (only_step xs) a b)

pub only_has-All : (xs : List ℕ) (depth : ℕ) (s : ℕ) (a : Form) → only_has xs depth (All s a) ≡ only_has xs (depth + 1) a
unfolding only_has
only_has-All xs depth s a = ap (λ g. g depth) (fold-All (ℕ → Bool) (only_step xs) s a)

pub only_has-Ex : (xs : List ℕ) (depth : ℕ) (s : ℕ) (a : Form) → only_has xs depth (Ex s a) ≡ only_has xs (depth + 1) a
unfolding only_has
only_has-Ex xs depth s a = ap (λ g. g depth) (fold-Ex (ℕ → Bool) (only_step xs) s a)

pub ruleset only_equations = (only_in_term-Var, only_in_term-App, only_has-Atom, only_has-Eq, only_has-Not, only_has-And, only_has-Or, only_has-Imp, only_has-Iff, only_has-All, only_has-Ex)
