-- Lemmas on what specs/Variables defines.
use Rattle.std.specs.Prelude.{ℕ, ◌+◌, ◌-◌, ◌≡◌, nat_lt, if◌then◌else◌, List, [], ◌∷◌, ◌++◌, map, flat_map, refl}
use Rattle.std.proofs.Common.{ap, ◌∙◌}
use Rattle.std.proofs.lemmas.List.Concat.{flat_map-cons}
use Rattle.fof_terms.proofs.Trees.{fold-Var, fold-App, fold-Atom, fold-Eq, fold-Not, fold-And, fold-Or, fold-Imp, fold-Iff, fold-All, fold-Ex}
use Rattle.fof_terms.specs.declared.term.Term.{Term, Var, App}
use Rattle.fof_terms.specs.declared.form.Form.{Form, Atom, Eq, Not, And, Or, Imp, Iff, All, Ex}
use Rattle.flat_form.specs.Variables.{variables_term_step, variables_of_term, variables_step, variables_of}

pub flat_map-map : {X Y Z : Type 0} (f : Y → List Z) (g : X → Y) (xs : List X) → flat_map f (map g xs) ≡ flat_map (λ x. f (g x)) xs
flat_map-map f g [] = refl
flat_map-map f g (x ∷ xs) = rw (flat_map-cons f (g x) (map g xs), flat_map-cons (λ x. f (g x)) x xs) (ap (λ ys. f (g x) ++ ys) (flat_map-map f g xs))

-- The equations of these words.
pub variables_of_term-Var : (d k : ℕ) → variables_of_term d (Var k) ≡ (if nat_lt k d then [] else (k - d) ∷ [])
unfolding variables_of_term
variables_of_term-Var d k = fold-Var (List ℕ) (variables_term_step d) k

pub variables_of_term-App : (d f : ℕ) (ts : List Term) → variables_of_term d (App f ts) ≡ flat_map (variables_of_term d) ts
unfolding variables_of_term
variables_of_term-App d f ts = fold-App (List ℕ) (variables_term_step d) f ts ∙ flat_map-map (λ ks. ks) _ ts

pub variables_of-Atom : (d : ℕ) (p : ℕ) (ts : List Term) → variables_of d (Atom p ts) ≡ flat_map (variables_of_term d) ts
unfolding variables_of
variables_of-Atom d p ts = ap (λ g. g d) (fold-Atom (ℕ → List ℕ) variables_step p ts)

pub variables_of-Eq : (d : ℕ) (l r : Term) → variables_of d (Eq l r) ≡ variables_of_term d l ++ variables_of_term d r
unfolding variables_of
variables_of-Eq d l r = ap (λ g. g d) (fold-Eq (ℕ → List ℕ) variables_step l r)

pub variables_of-Not : (d : ℕ) (a : Form) → variables_of d (Not a) ≡ variables_of d a
unfolding variables_of
variables_of-Not d a = ap (λ g. g d) (fold-Not (ℕ → List ℕ) variables_step a)

pub variables_of-And : (d : ℕ) (as_ : List Form) → variables_of d (And as_) ≡ flat_map (variables_of d) as_
unfolding variables_of
variables_of-And d as_ = ap (λ g. g d) (fold-And (ℕ → List ℕ) variables_step as_) ∙ flat_map-map (λ a. a d) _ as_

pub variables_of-Or : (d : ℕ) (as_ : List Form) → variables_of d (Or as_) ≡ flat_map (variables_of d) as_
unfolding variables_of
variables_of-Or d as_ = ap (λ g. g d) (fold-Or (ℕ → List ℕ) variables_step as_) ∙ flat_map-map (λ a. a d) _ as_

pub variables_of-Imp : (d : ℕ) (a b : Form) → variables_of d (Imp a b) ≡ variables_of d a ++ variables_of d b
unfolding variables_of
variables_of-Imp d a b = ap (λ g. g d) (fold-Imp (ℕ → List ℕ) variables_step a b)

pub variables_of-Iff : (d : ℕ) (a b : Form) → variables_of d (Iff a b) ≡ variables_of d a ++ variables_of d b
unfolding variables_of
variables_of-Iff d a b = ap (λ g. g d) (fold-Iff (ℕ → List ℕ) variables_step a b)

pub variables_of-All : (d : ℕ) (s : ℕ) (a : Form) → variables_of d (All s a) ≡ variables_of (d + 1) a
unfolding variables_of
variables_of-All d s a = ap (λ g. g d) (fold-All (ℕ → List ℕ) variables_step s a)

pub variables_of-Ex : (d : ℕ) (s : ℕ) (a : Form) → variables_of d (Ex s a) ≡ variables_of (d + 1) a
unfolding variables_of
variables_of-Ex d s a = ap (λ g. g d) (fold-Ex (ℕ → List ℕ) variables_step s a)

pub ruleset variables_of_equations = (variables_of_term-Var, variables_of_term-App, variables_of-Atom, variables_of-Eq, variables_of-Not, variables_of-And, variables_of-Or, variables_of-Imp, variables_of-Iff, variables_of-All, variables_of-Ex)
