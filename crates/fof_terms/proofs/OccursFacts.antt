-- Lemmas on what specs/Occurs defines.
use Rattle.std.specs.Prelude.{ℕ, Bool, false, ◌||◌, ◌==◌, List, [], ◌∷◌, ◌≡◌, map, refl}
use Rattle.std.specs.List.{list_any}
use Rattle.std.proofs.Common.{ap, ◌∙◌}
use Rattle.fof_terms.proofs.Trees.{fold-Var, fold-App, fold-Atom, fold-Eq, fold-Not, fold-And, fold-Or, fold-Imp, fold-Iff, fold-All, fold-Ex}
use Rattle.fof_terms.specs.declared.term.Term.{Term, Var, App}
use Rattle.fof_terms.specs.declared.term.Term.TheFolds.{fold-Term}
use Rattle.fof_terms.specs.declared.form.Form.{Form, Atom, Eq, Not, And, Or, Imp, Iff, All, Ex}
use Rattle.fof_terms.specs.declared.form.Form.TheFolds.{fold-Form}
use Rattle.fof_terms.specs.Occurs.{occurs_term_step, occurs_in_term, occurs_step, occurs_in}
use Rattle.fof_terms.specs.declared.term.Term.TheOpen as term
use Rattle.fof_terms.specs.declared.form.Form.TheOpen as form

pub list_any-map : {X Y : Type 0} (p : Y → Bool) (f : X → Y) (xs : List X) → list_any p (map f xs) ≡ list_any (λ x. p (f x)) xs
list_any-map p f [] = refl
list_any-map p f (x ∷ xs) = ap (λ b. p (f x) || b) (list_any-map p f xs)

-- The equations of these words.
pub occurs_in_term-Var : (symbol k : ℕ) → occurs_in_term symbol (Var k) ≡ false
unfolding occurs_in_term
occurs_in_term-Var symbol k = fold-Var Bool (occurs_term_step symbol) k

pub occurs_in_term-App : (symbol f : ℕ) (ts : List Term) → occurs_in_term symbol (App f ts) ≡ ((f == symbol) || list_any (occurs_in_term symbol) ts)
unfolding occurs_in_term
occurs_in_term-App symbol f ts = fold-App Bool (occurs_term_step symbol) f ts ∙ ap (λ b. (f == symbol) || b) (list_any-map (λ b. b) _ ts)

pub occurs_in-Atom : (symbol : ℕ) (p : ℕ) (ts : List Term) → occurs_in symbol (Atom p ts) ≡ ((p == symbol) || list_any (occurs_in_term symbol) ts)
unfolding occurs_in
occurs_in-Atom symbol p ts = fold-Atom (Bool) (occurs_step symbol) p ts

pub occurs_in-Eq : (symbol : ℕ) (s t : Term) → occurs_in symbol (Eq s t) ≡ (occurs_in_term symbol s || occurs_in_term symbol t)
unfolding occurs_in
occurs_in-Eq symbol s t = fold-Eq (Bool) (occurs_step symbol) s t

pub occurs_in-Not : (symbol : ℕ) (a : Form) → occurs_in symbol (Not a) ≡ occurs_in symbol a
unfolding occurs_in
occurs_in-Not symbol a = fold-Not (Bool) (occurs_step symbol) a

pub occurs_in-And : (symbol : ℕ) (as_ : List Form) → occurs_in symbol (And as_) ≡ list_any (occurs_in symbol) as_
unfolding occurs_in
occurs_in-And symbol as_ = fold-And (Bool) (occurs_step symbol) as_ ∙ list_any-map (λ b. b) _ as_

pub occurs_in-Or : (symbol : ℕ) (as_ : List Form) → occurs_in symbol (Or as_) ≡ list_any (occurs_in symbol) as_
unfolding occurs_in
occurs_in-Or symbol as_ = fold-Or (Bool) (occurs_step symbol) as_ ∙ list_any-map (λ b. b) _ as_

pub occurs_in-Imp : (symbol : ℕ) (a b : Form) → occurs_in symbol (Imp a b) ≡ (occurs_in symbol a || occurs_in symbol b)
unfolding occurs_in
occurs_in-Imp symbol a b = fold-Imp (Bool) (occurs_step symbol) a b

pub occurs_in-Iff : (symbol : ℕ) (a b : Form) → occurs_in symbol (Iff a b) ≡ (occurs_in symbol a || occurs_in symbol b)
unfolding occurs_in
occurs_in-Iff symbol a b = fold-Iff (Bool) (occurs_step symbol) a b

pub occurs_in-All : (symbol : ℕ) (s : ℕ) (a : Form) → occurs_in symbol (All s a) ≡ occurs_in symbol a
unfolding occurs_in
occurs_in-All symbol s a = fold-All (Bool) (occurs_step symbol) s a

pub occurs_in-Ex : (symbol : ℕ) (s : ℕ) (a : Form) → occurs_in symbol (Ex s a) ≡ occurs_in symbol a
unfolding occurs_in
occurs_in-Ex symbol s a = fold-Ex (Bool) (occurs_step symbol) s a

pub ruleset occurs_in_equations = (occurs_in-Atom, occurs_in-Eq, occurs_in-Not, occurs_in-And, occurs_in-Or, occurs_in-Imp, occurs_in-Iff, occurs_in-All, occurs_in-Ex)

pub ruleset occurs_equations = (occurs_in_term-Var, occurs_in_term-App, occurs_in_equations)
