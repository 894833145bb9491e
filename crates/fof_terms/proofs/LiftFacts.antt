-- Lemmas on what specs/Lift defines.
use Rattle.std.specs.Prelude.{ℕ, ◌+◌, nat_lt, max, if◌then◌else◌, List, [], ◌∷◌, map, ◌≡◌}
use Rattle.std.proofs.Common.{ap, ◌∙◌}
use Rattle.std.proofs.lemmas.Simd.{map-map}
use Rattle.fof_terms.proofs.Trees.{fold-Var, fold-App, fold-Atom, fold-Eq, fold-Not, fold-And, fold-Or, fold-Imp, fold-Iff, fold-All, fold-Ex}
use Rattle.fof_terms.specs.declared.term.Term.{Term, Var, App}
use Rattle.fof_terms.specs.declared.term.Term.TheFolds.{fold-Term}
use Rattle.fof_terms.specs.declared.form.Form.{Form, Atom, Eq, Not, And, Or, Imp, Iff, All, Ex}
use Rattle.fof_terms.specs.declared.form.Form.TheFolds.{fold-Form}
use Rattle.fof_terms.specs.Lift.{lift_term_step, lifted_term, lift_step, lifted, greatest, lift_term_reach_step, lift_term_reach, lift_reach_step, lift_reach}
use Rattle.fof_terms.specs.declared.term.Term.TheOpen as term
use Rattle.fof_terms.specs.declared.form.Form.TheOpen as form

-- The equations of these words.
pub lifted_term-Var : (by from k : ℕ) → lifted_term by from (Var k) ≡ (if nat_lt k from then Var k else Var (k + by))
unfolding lifted_term
lifted_term-Var by from k = fold-Var Term (lift_term_step by from) k

pub lifted_term-App : (by from f : ℕ) (ts : List Term) → lifted_term by from (App f ts) ≡ App f (map (lifted_term by from) ts)
unfolding lifted_term
lifted_term-App by from f ts = fold-App Term (lift_term_step by from) f ts

pub lift_term_reach-Var : (by from k : ℕ) → lift_term_reach by from (Var k) ≡ (if nat_lt k from then 0 else k + by)
unfolding lift_term_reach
lift_term_reach-Var by from k = fold-Var ℕ (lift_term_reach_step by from) k

pub lift_term_reach-App : (by from f : ℕ) (ts : List Term) → lift_term_reach by from (App f ts) ≡ greatest (map (lift_term_reach by from) ts)
unfolding lift_term_reach
lift_term_reach-App by from f ts = fold-App ℕ (lift_term_reach_step by from) f ts

pub lifted-Atom : (by from : ℕ) (p : ℕ) (ts : List Term) → lifted by from (Atom p ts) ≡ Atom p (map (lifted_term by from) ts)
unfolding lifted
lifted-Atom by from p ts = ap (λ g. g from) (fold-Atom (ℕ → Form) (lift_step by) p ts)

pub lifted-Eq : (by from : ℕ) (s t : Term) → lifted by from (Eq s t) ≡ Eq (lifted_term by from s) (lifted_term by from t)
unfolding lifted
lifted-Eq by from s t = ap (λ g. g from) (fold-Eq (ℕ → Form) (lift_step by) s t)

pub lifted-Not : (by from : ℕ) (a : Form) → lifted by from (Not a) ≡ Not (lifted by from a)
unfolding lifted
lifted-Not by from a = ap (λ g. g from) (fold-Not (ℕ → Form) (lift_step by) a)

pub lifted-And : (by from : ℕ) (as_ : List Form) → lifted by from (And as_) ≡ And (map (lifted by from) as_)
unfolding lifted
lifted-And by from as_ = ap (λ g. g from) (fold-And (ℕ → Form) (lift_step by) as_) ∙ ap And (map-map (λ a. a from) _ as_)

pub lifted-Or : (by from : ℕ) (as_ : List Form) → lifted by from (Or as_) ≡ Or (map (lifted by from) as_)
unfolding lifted
lifted-Or by from as_ = ap (λ g. g from) (fold-Or (ℕ → Form) (lift_step by) as_) ∙ ap Or (map-map (λ a. a from) _ as_)

pub lifted-Imp : (by from : ℕ) (a b : Form) → lifted by from (Imp a b) ≡ Imp (lifted by from a) (lifted by from b)
unfolding lifted
lifted-Imp by from a b = ap (λ g. g from) (fold-Imp (ℕ → Form) (lift_step by) a b)

pub lifted-Iff : (by from : ℕ) (a b : Form) → lifted by from (Iff a b) ≡ Iff (lifted by from a) (lifted by from b)
unfolding lifted
lifted-Iff by from a b = ap (λ g. g from) (fold-Iff (ℕ → Form) (lift_step by) a b)

pub lifted-All : (by from : ℕ) (s : ℕ) (a : Form) → lifted by from (All s a) ≡ All s (lifted by (from + 1) a)
unfolding lifted
lifted-All by from s a = ap (λ g. g from) (fold-All (ℕ → Form) (lift_step by) s a)

pub lifted-Ex : (by from : ℕ) (s : ℕ) (a : Form) → lifted by from (Ex s a) ≡ Ex s (lifted by (from + 1) a)
unfolding lifted
lifted-Ex by from s a = ap (λ g. g from) (fold-Ex (ℕ → Form) (lift_step by) s a)

pub ruleset lifted_equations = (lifted-Atom, lifted-Eq, lifted-Not, lifted-And, lifted-Or, lifted-Imp, lifted-Iff, lifted-All, lifted-Ex)

pub lift_reach-Atom : (by from : ℕ) (p : ℕ) (ts : List Term) → lift_reach by from (Atom p ts) ≡ greatest (map (lift_term_reach by from) ts)
unfolding lift_reach
lift_reach-Atom by from p ts = ap (λ g. g from) (fold-Atom (ℕ → ℕ) (lift_reach_step by) p ts)

pub lift_reach-Eq : (by from : ℕ) (s t : Term) → lift_reach by from (Eq s t) ≡ max (lift_term_reach by from s) (lift_term_reach by from t)
unfolding lift_reach
lift_reach-Eq by from s t = ap (λ g. g from) (fold-Eq (ℕ → ℕ) (lift_reach_step by) s t)

pub lift_reach-Not : (by from : ℕ) (a : Form) → lift_reach by from (Not a) ≡ lift_reach by from a
unfolding lift_reach
lift_reach-Not by from a = ap (λ g. g from) (fold-Not (ℕ → ℕ) (lift_reach_step by) a)

pub lift_reach-And : (by from : ℕ) (as_ : List Form) → lift_reach by from (And as_) ≡ greatest (map (lift_reach by from) as_)
unfolding lift_reach
lift_reach-And by from as_ = ap (λ g. g from) (fold-And (ℕ → ℕ) (lift_reach_step by) as_) ∙ ap greatest (map-map (λ a. a from) _ as_)

pub lift_reach-Or : (by from : ℕ) (as_ : List Form) → lift_reach by from (Or as_) ≡ greatest (map (lift_reach by from) as_)
unfolding lift_reach
lift_reach-Or by from as_ = ap (λ g. g from) (fold-Or (ℕ → ℕ) (lift_reach_step by) as_) ∙ ap greatest (map-map (λ a. a from) _ as_)

pub lift_reach-Imp : (by from : ℕ) (a b : Form) → lift_reach by from (Imp a b) ≡ max (lift_reach by from a) (lift_reach by from b)
unfolding lift_reach
lift_reach-Imp by from a b = ap (λ g. g from) (fold-Imp (ℕ → ℕ) (lift_reach_step by) a b)

pub lift_reach-Iff : (by from : ℕ) (a b : Form) → lift_reach by from (Iff a b) ≡ max (lift_reach by from a) (lift_reach by from b)
unfolding lift_reach
lift_reach-Iff by from a b = ap (λ g. g from) (fold-Iff (ℕ → ℕ) (lift_reach_step by) a b)

pub lift_reach-All : (by from : ℕ) (s : ℕ) (a : Form) → lift_reach by from (All s a) ≡ max (from + 1) (lift_reach by (from + 1) a)
unfolding lift_reach
lift_reach-All by from s a = ap (λ g. g from) (fold-All (ℕ → ℕ) (lift_reach_step by) s a)

pub lift_reach-Ex : (by from : ℕ) (s : ℕ) (a : Form) → lift_reach by from (Ex s a) ≡ max (from + 1) (lift_reach by (from + 1) a)
unfolding lift_reach
lift_reach-Ex by from s a = ap (λ g. g from) (fold-Ex (ℕ → ℕ) (lift_reach_step by) s a)

pub ruleset lift_reach_equations = (lift_reach-Atom, lift_reach-Eq, lift_reach-Not, lift_reach-And, lift_reach-Or, lift_reach-Imp, lift_reach-Iff, lift_reach-All, lift_reach-Ex)

pub ruleset lift_equations = (lifted_term-Var, lifted_term-App, lift_term_reach-Var, lift_term_reach-App, lifted_equations, lift_reach_equations)
