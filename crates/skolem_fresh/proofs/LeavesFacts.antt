-- Lemmas on what specs/code/Leaves defines.
use Rattle.std.specs.Prelude.{ℕ, ◌+◌, ◌≡◌, List, [], ◌∷◌, ◌++◌, map, flat_map}
use Rattle.std.proofs.Common.{ap, ◌∙◌}
use Rattle.std.proofs.lemmas.List.Folds.{flat_map-map}
use Rattle.fof_terms.proofs.Trees.{fold-Atom, fold-Eq, fold-Not, fold-And, fold-Or, fold-Imp, fold-Iff, fold-All, fold-Ex}
use Rattle.fof_terms.specs.declared.term.Term.{Term}
use Rattle.fof_terms.specs.declared.form.Form.{Form, Atom, Eq, Not, And, Or, Imp, Iff, All, Ex}
use Rattle.fof_terms.specs.declared.form.Form.TheFolds.{fold-Form}
use Rattle.skolem_fresh.specs.declared.leaves.Leaf.{Leaf}
use Rattle.skolem_fresh.specs.code.Leaves.{leaf, leaves_step, leaves_of}
use Rattle.fof_terms.specs.declared.form.Form.TheOpen as form

-- The equations of this word.
pub leaves_of-Atom : (depth p : ℕ) (ts : List Term) → leaves_of depth (Atom p ts) ≡ map (leaf depth) ts
unfolding leaves_of
leaves_of-Atom depth p ts = ap (λ g. g depth) (fold-Atom (ℕ → List Leaf) leaves_step p ts)

pub leaves_of-Eq : (depth : ℕ) (l r : Term) → leaves_of depth (Eq l r) ≡ leaf depth l ∷ leaf depth r ∷ []
unfolding leaves_of
leaves_of-Eq depth l r = ap (λ g. g depth) (fold-Eq (ℕ → List Leaf) leaves_step l r)

pub leaves_of-Not : (depth : ℕ) (a : Form) → leaves_of depth (Not a) ≡ leaves_of depth a
unfolding leaves_of
leaves_of-Not depth a = ap (λ g. g depth) (fold-Not (ℕ → List Leaf) leaves_step a)

pub leaves_of-And : (depth : ℕ) (as_ : List Form) → leaves_of depth (And as_) ≡ flat_map (leaves_of depth) as_
unfolding leaves_of
leaves_of-And depth as_ = ap (λ g. g depth) (fold-And (ℕ → List Leaf) leaves_step as_) ∙ flat_map-map (λ a. a depth) _ as_

pub leaves_of-Or : (depth : ℕ) (as_ : List Form) → leaves_of depth (Or as_) ≡ flat_map (leaves_of depth) as_
unfolding leaves_of
leaves_of-Or depth as_ = ap (λ g. g depth) (fold-Or (ℕ → List Leaf) leaves_step as_) ∙ flat_map-map (λ a. a depth) _ as_

pub leaves_of-Imp : (depth : ℕ) (a b : Form) → leaves_of depth (Imp a b) ≡ leaves_of depth a ++ leaves_of depth b
unfolding leaves_of
leaves_of-Imp depth a b = ap (λ g. g depth) (fold-Imp (ℕ → List Leaf) leaves_step a b)

pub leaves_of-Iff : (depth : ℕ) (a b : Form) → leaves_of depth (Iff a b) ≡ leaves_of depth a ++ leaves_of depth b
unfolding leaves_of
leaves_of-Iff depth a b = ap (λ g. g depth) (fold-Iff (ℕ → List Leaf) leaves_step a b)

pub leaves_of-All : (depth s : ℕ) (a : Form) → leaves_of depth (All s a) ≡ leaves_of (depth + 1) a
unfolding leaves_of
leaves_of-All depth s a = ap (λ g. g depth) (fold-All (ℕ → List Leaf) leaves_step s a)

pub leaves_of-Ex : (depth s : ℕ) (a : Form) → leaves_of depth (Ex s a) ≡ leaves_of (depth + 1) a
unfolding leaves_of
leaves_of-Ex depth s a = ap (λ g. g depth) (fold-Ex (ℕ → List Leaf) leaves_step s a)

pub ruleset leaves_equations = (leaves_of-Atom, leaves_of-Eq, leaves_of-Not, leaves_of-And, leaves_of-Or, leaves_of-Imp, leaves_of-Iff, leaves_of-All, leaves_of-Ex)
