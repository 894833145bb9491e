-- Lemmas on what specs/Instance defines.
use Rattle.std.specs.Prelude.{ℕ, ◌+◌, ◌-◌, ◌==◌, nat_lt, max, if◌then◌else◌, List, map, ◌≡◌}
use Rattle.fof_terms.specs.Lift.{lifted_term, lift_term_reach, greatest}
use Rattle.std.proofs.Common.{ap, ◌∙◌}
use Rattle.std.proofs.lemmas.Simd.{map-map}
use Rattle.fof_terms.proofs.Trees.{fold-Var, fold-App, fold-Atom, fold-Eq, fold-Not, fold-And, fold-Or, fold-Imp, fold-Iff, fold-All, fold-Ex}
use Rattle.fof_terms.specs.declared.term.Term.{Term, Var, App}
use Rattle.fof_terms.specs.declared.term.Term.TheFolds.{fold-Term}
use Rattle.fof_terms.specs.declared.form.Form.{Form, Atom, Eq, Not, And, Or, Imp, Iff, All, Ex}
use Rattle.fof_terms.specs.declared.form.Form.TheFolds.{fold-Form}
use Rattle.fof_terms.specs.Instance.{instance_term_step, instance_term, instance_step, instance_at, instance_term_reach_step, instance_term_reach, instance_reach_step, instance_reach}
use Rattle.fof_terms.specs.declared.term.Term.TheOpen as term
use Rattle.fof_terms.specs.declared.form.Form.TheOpen as form

-- The equations of these words.
pub instance_term-Var : (t : Term) (depth k : ℕ) → instance_term t depth (Var k) ≡ (if nat_lt k depth then Var k else (if k == depth then lifted_term depth 0 t else Var (k - 1)))
unfolding instance_term
instance_term-Var t depth k = fold-Var Term (instance_term_step t depth) k

pub instance_term-App : (t : Term) (depth f : ℕ) (ts : List Term) → instance_term t depth (App f ts) ≡ App f (map (instance_term t depth) ts)
unfolding instance_term
instance_term-App t depth f ts = fold-App Term (instance_term_step t depth) f ts

pub instance_term_reach-Var : (t : Term) (depth k : ℕ) → instance_term_reach t depth (Var k) ≡ (if k == depth then lift_term_reach depth 0 t else 0)
unfolding instance_term_reach
instance_term_reach-Var t depth k = fold-Var ℕ (instance_term_reach_step t depth) k

pub instance_term_reach-App : (t : Term) (depth f : ℕ) (ts : List Term) → instance_term_reach t depth (App f ts) ≡ greatest (map (instance_term_reach t depth) ts)
unfolding instance_term_reach
instance_term_reach-App t depth f ts = fold-App ℕ (instance_term_reach_step t depth) f ts

pub instance_at-Atom : (t : Term) (depth : ℕ) (p : ℕ) (ts : List Term) → instance_at t depth (Atom p ts) ≡ Atom p (map (instance_term t depth) ts)
unfolding instance_at
instance_at-Atom t depth p ts = ap (λ g. g depth) (fold-Atom (ℕ → Form) (instance_step t) p ts)

pub instance_at-Eq : (t : Term) (depth : ℕ) (l r : Term) → instance_at t depth (Eq l r) ≡ Eq (instance_term t depth l) (instance_term t depth r)
unfolding instance_at
instance_at-Eq t depth l r = ap (λ g. g depth) (fold-Eq (ℕ → Form) (instance_step t) l r)

pub instance_at-Not : (t : Term) (depth : ℕ) (a : Form) → instance_at t depth (Not a) ≡ Not (instance_at t depth a)
unfolding instance_at
instance_at-Not t depth a = ap (λ g. g depth) (fold-Not (ℕ → Form) (instance_step t) a)

pub instance_at-And : (t : Term) (depth : ℕ) (as_ : List Form) → instance_at t depth (And as_) ≡ And (map (instance_at t depth) as_)
unfolding instance_at
instance_at-And t depth as_ = ap (λ g. g depth) (fold-And (ℕ → Form) (instance_step t) as_) ∙ ap And (map-map (λ a. a depth) _ as_)

pub instance_at-Or : (t : Term) (depth : ℕ) (as_ : List Form) → instance_at t depth (Or as_) ≡ Or (map (instance_at t depth) as_)
unfolding instance_at
instance_at-Or t depth as_ = ap (λ g. g depth) (fold-Or (ℕ → Form) (instance_step t) as_) ∙ ap Or (map-map (λ a. a depth) _ as_)

pub instance_at-Imp : (t : Term) (depth : ℕ) (a b : Form) → instance_at t depth (Imp a b) ≡ Imp (instance_at t depth a) (instance_at t depth b)
unfolding instance_at
instance_at-Imp t depth a b = ap (λ g. g depth) (fold-Imp (ℕ → Form) (instance_step t) a b)

pub instance_at-Iff : (t : Term) (depth : ℕ) (a b : Form) → instance_at t depth (Iff a b) ≡ Iff (instance_at t depth a) (instance_at t depth b)
unfolding instance_at
instance_at-Iff t depth a b = ap (λ g. g depth) (fold-Iff (ℕ → Form) (instance_step t) a b)

pub instance_at-All : (t : Term) (depth : ℕ) (s : ℕ) (a : Form) → instance_at t depth (All s a) ≡ All s (instance_at t (depth + 1) a)
unfolding instance_at
instance_at-All t depth s a = ap (λ g. g depth) (fold-All (ℕ → Form) (instance_step t) s a)

pub instance_at-Ex : (t : Term) (depth : ℕ) (s : ℕ) (a : Form) → instance_at t depth (Ex s a) ≡ Ex s (instance_at t (depth + 1) a)
unfolding instance_at
instance_at-Ex t depth s a = ap (λ g. g depth) (fold-Ex (ℕ → Form) (instance_step t) s a)

pub ruleset instance_at_equations = (instance_at-Atom, instance_at-Eq, instance_at-Not, instance_at-And, instance_at-Or, instance_at-Imp, instance_at-Iff, instance_at-All, instance_at-Ex)

pub instance_reach-Atom : (t : Term) (depth : ℕ) (p : ℕ) (ts : List Term) → instance_reach t depth (Atom p ts) ≡ greatest (map (instance_term_reach t depth) ts)
unfolding instance_reach
instance_reach-Atom t depth p ts = ap (λ g. g depth) (fold-Atom (ℕ → ℕ) (instance_reach_step t) p ts)

pub instance_reach-Eq : (t : Term) (depth : ℕ) (l r : Term) → instance_reach t depth (Eq l r) ≡ max (instance_term_reach t depth l) (instance_term_reach t depth r)
unfolding instance_reach
instance_reach-Eq t depth l r = ap (λ g. g depth) (fold-Eq (ℕ → ℕ) (instance_reach_step t) l r)

pub instance_reach-Not : (t : Term) (depth : ℕ) (a : Form) → instance_reach t depth (Not a) ≡ instance_reach t depth a
unfolding instance_reach
instance_reach-Not t depth a = ap (λ g. g depth) (fold-Not (ℕ → ℕ) (instance_reach_step t) a)

pub instance_reach-And : (t : Term) (depth : ℕ) (as_ : List Form) → instance_reach t depth (And as_) ≡ greatest (map (instance_reach t depth) as_)
unfolding instance_reach
instance_reach-And t depth as_ = ap (λ g. g depth) (fold-And (ℕ → ℕ) (instance_reach_step t) as_) ∙ ap greatest (map-map (λ a. a depth) _ as_)

pub instance_reach-Or : (t : Term) (depth : ℕ) (as_ : List Form) → instance_reach t depth (Or as_) ≡ greatest (map (instance_reach t depth) as_)
unfolding instance_reach
instance_reach-Or t depth as_ = ap (λ g. g depth) (fold-Or (ℕ → ℕ) (instance_reach_step t) as_) ∙ ap greatest (map-map (λ a. a depth) _ as_)

pub instance_reach-Imp : (t : Term) (depth : ℕ) (a b : Form) → instance_reach t depth (Imp a b) ≡ max (instance_reach t depth a) (instance_reach t depth b)
unfolding instance_reach
instance_reach-Imp t depth a b = ap (λ g. g depth) (fold-Imp (ℕ → ℕ) (instance_reach_step t) a b)

pub instance_reach-Iff : (t : Term) (depth : ℕ) (a b : Form) → instance_reach t depth (Iff a b) ≡ max (instance_reach t depth a) (instance_reach t depth b)
unfolding instance_reach
instance_reach-Iff t depth a b = ap (λ g. g depth) (fold-Iff (ℕ → ℕ) (instance_reach_step t) a b)

pub instance_reach-All : (t : Term) (depth : ℕ) (s : ℕ) (a : Form) → instance_reach t depth (All s a) ≡ max (depth + 1) (instance_reach t (depth + 1) a)
unfolding instance_reach
instance_reach-All t depth s a = ap (λ g. g depth) (fold-All (ℕ → ℕ) (instance_reach_step t) s a)

pub instance_reach-Ex : (t : Term) (depth : ℕ) (s : ℕ) (a : Form) → instance_reach t depth (Ex s a) ≡ max (depth + 1) (instance_reach t (depth + 1) a)
unfolding instance_reach
instance_reach-Ex t depth s a = ap (λ g. g depth) (fold-Ex (ℕ → ℕ) (instance_reach_step t) s a)

pub ruleset instance_reach_equations = (instance_reach-Atom, instance_reach-Eq, instance_reach-Not, instance_reach-And, instance_reach-Or, instance_reach-Imp, instance_reach-Iff, instance_reach-All, instance_reach-Ex)

pub ruleset instance_equations = (instance_term-Var, instance_term-App, instance_term_reach-Var, instance_term_reach-App, instance_at_equations, instance_reach_equations)
