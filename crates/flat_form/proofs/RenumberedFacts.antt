-- Lemmas on what specs/Renumbered defines.
use Rattle.std.specs.Prelude.{ℕ, ◌+◌, ◌-◌, ◌≡◌, nat_lt, if◌then◌else◌, List, map}
use Rattle.std.proofs.Common.{ap, ◌∙◌}
use Rattle.std.proofs.lemmas.Simd.{map-map}
use Rattle.fof_terms.proofs.Trees.{fold-Var, fold-App, fold-Atom, fold-Eq, fold-Not, fold-And, fold-Or, fold-Imp, fold-Iff, fold-All, fold-Ex}
use Rattle.fof_terms.specs.declared.term.Term.{Term, Var, App}
use Rattle.fof_terms.specs.declared.form.Form.{Form, Atom, Eq, Not, And, Or, Imp, Iff, All, Ex}
use Rattle.flat_form.specs.Renumbered.{renumber_term_step, renumbered_term, renumber_step, renumbered}

-- The equations of these words.
pub renumbered_term-Var : (new : ℕ → ℕ) (d k : ℕ) → renumbered_term new d (Var k) ≡ (if nat_lt k d then Var k else Var (new (k - d) + d))
unfolding renumbered_term
renumbered_term-Var new d k = fold-Var Term (renumber_term_step new d) k

pub renumbered_term-App : (new : ℕ → ℕ) (d f : ℕ) (ts : List Term) → renumbered_term new d (App f ts) ≡ App f (map (renumbered_term new d) ts)
unfolding renumbered_term
renumbered_term-App new d f ts = fold-App Term (renumber_term_step new d) f ts

pub renumbered-Atom : (new : ℕ → ℕ) (d : ℕ) (p : ℕ) (ts : List Term) → renumbered new d (Atom p ts) ≡ Atom p (map (renumbered_term new d) ts)
unfolding renumbered
renumbered-Atom new d p ts = ap (λ g. g d) (fold-Atom (ℕ → Form) (renumber_step new) p ts)

pub renumbered-Eq : (new : ℕ → ℕ) (d : ℕ) (l r : Term) → renumbered new d (Eq l r) ≡ Eq (renumbered_term new d l) (renumbered_term new d r)
unfolding renumbered
renumbered-Eq new d l r = ap (λ g. g d) (fold-Eq (ℕ → Form) (renumber_step new) l r)

pub renumbered-Not : (new : ℕ → ℕ) (d : ℕ) (a : Form) → renumbered new d (Not a) ≡ Not (renumbered new d a)
unfolding renumbered
renumbered-Not new d a = ap (λ g. g d) (fold-Not (ℕ → Form) (renumber_step new) a)

pub renumbered-And : (new : ℕ → ℕ) (d : ℕ) (as_ : List Form) → renumbered new d (And as_) ≡ And (map (renumbered new d) as_)
unfolding renumbered
renumbered-And new d as_ = ap (λ g. g d) (fold-And (ℕ → Form) (renumber_step new) as_) ∙ ap And (map-map (λ a. a d) _ as_)

pub renumbered-Or : (new : ℕ → ℕ) (d : ℕ) (as_ : List Form) → renumbered new d (Or as_) ≡ Or (map (renumbered new d) as_)
unfolding renumbered
renumbered-Or new d as_ = ap (λ g. g d) (fold-Or (ℕ → Form) (renumber_step new) as_) ∙ ap Or (map-map (λ a. a d) _ as_)

pub renumbered-Imp : (new : ℕ → ℕ) (d : ℕ) (a b : Form) → renumbered new d (Imp a b) ≡ Imp (renumbered new d a) (renumbered new d b)
unfolding renumbered
renumbered-Imp new d a b = ap (λ g. g d) (fold-Imp (ℕ → Form) (renumber_step new) a b)

pub renumbered-Iff : (new : ℕ → ℕ) (d : ℕ) (a b : Form) → renumbered new d (Iff a b) ≡ Iff (renumbered new d a) (renumbered new d b)
unfolding renumbered
renumbered-Iff new d a b = ap (λ g. g d) (fold-Iff (ℕ → Form) (renumber_step new) a b)

pub renumbered-All : (new : ℕ → ℕ) (d : ℕ) (s : ℕ) (a : Form) → renumbered new d (All s a) ≡ All s (renumbered new (d + 1) a)
unfolding renumbered
renumbered-All new d s a = ap (λ g. g d) (fold-All (ℕ → Form) (renumber_step new) s a)

pub renumbered-Ex : (new : ℕ → ℕ) (d : ℕ) (s : ℕ) (a : Form) → renumbered new d (Ex s a) ≡ Ex s (renumbered new (d + 1) a)
unfolding renumbered
renumbered-Ex new d s a = ap (λ g. g d) (fold-Ex (ℕ → Form) (renumber_step new) s a)

pub ruleset renumbered_equations = (renumbered_term-Var, renumbered_term-App, renumbered-Atom, renumbered-Eq, renumbered-Not, renumbered-And, renumbered-Or, renumbered-Imp, renumbered-Iff, renumbered-All, renumbered-Ex)
