-- Lemmas on what specs/Norm defines.
use Rattle.std.specs.Prelude.{ℕ, Bool, true, false, not, List, [], ◌∷◌, map, flat_map, ◌≡◌, if◌then◌else◌, refl}
use Rattle.std.specs.List.{list_any}
use Rattle.std.proofs.Common.{ap, ◌∙◌}
use Rattle.std.proofs.lemmas.Simd.{map-map}
use Rattle.fof_terms.proofs.Trees.{fold-Atom, fold-Eq, fold-Not, fold-And, fold-Or, fold-Imp, fold-Iff, fold-All, fold-Ex}
use Rattle.fof_terms.specs.Instance.{instance_at}
use Rattle.fof_terms.specs.Variables.{has_variable}
use Rattle.fof_terms.specs.declared.term.Term.{Term, Var}
use Rattle.fof_terms.specs.declared.form.Form.{Form, Atom, Eq, Not, And, Or, Imp, Iff, All, Ex}
use Rattle.fof_terms.specs.declared.form.Form.TheViews.{out-Form}
use Rattle.fof_terms.specs.declared.form.Form.TheFolds.{fold-Form}
use Rattle.clause_form.specs.Norm.{signed, node, ends, alone, joined_flat, join, quantifier, quantified, norm_step, norm_of}
use Rattle.fof_terms.specs.declared.form.Form.TheOpen as form

-- The equations of this word.
pub norm_of-Atom : (g : Bool) (p : ℕ) (ts : List Term) → norm_of g (Atom p ts) ≡ signed g (Atom p ts)
unfolding norm_of
norm_of-Atom g p ts = ap (λ f. f g) (fold-Atom (Bool → Form) (norm_step) p ts)

pub norm_of-Eq : (g : Bool) (s t : Term) → norm_of g (Eq s t) ≡ signed g (Eq s t)
unfolding norm_of
norm_of-Eq g s t = ap (λ f. f g) (fold-Eq (Bool → Form) (norm_step) s t)

pub norm_of-Not : (g : Bool) (a : Form) → norm_of g (Not a) ≡ norm_of (not g) a
unfolding norm_of
norm_of-Not g a = ap (λ f. f g) (fold-Not (Bool → Form) (norm_step) a)

pub norm_of-And : (g : Bool) (as_ : List Form) → norm_of g (And as_) ≡ join g (map (norm_of g) as_)
unfolding norm_of
norm_of-And g as_ = ap (λ f. f g) (fold-And (Bool → Form) (norm_step) as_) ∙ ap (join g) (map-map (λ a. a g) _ as_)

pub norm_of-Or : (g : Bool) (as_ : List Form) → norm_of g (Or as_) ≡ join (not g) (map (norm_of g) as_)
unfolding norm_of
norm_of-Or g as_ = ap (λ f. f g) (fold-Or (Bool → Form) (norm_step) as_) ∙ ap (join (not g)) (map-map (λ a. a g) _ as_)

pub norm_of-Imp : (g : Bool) (a b : Form) → norm_of g (Imp a b) ≡ join (not g) (norm_of (not g) a ∷ norm_of g b ∷ [])
unfolding norm_of
norm_of-Imp g a b = ap (λ f. f g) (fold-Imp (Bool → Form) (norm_step) a b)

pub norm_of-Iff : (g : Bool) (a b : Form) → norm_of g (Iff a b) ≡ join g (join (not g) (norm_of (not g) a ∷ norm_of g b ∷ []) ∷ join (not g) (norm_of g a ∷ norm_of (not g) b ∷ []) ∷ [])
unfolding norm_of
norm_of-Iff g a b = ap (λ f. f g) (fold-Iff (Bool → Form) (norm_step) a b)

pub norm_of-All : (g : Bool) (s : ℕ) (a : Form) → norm_of g (All s a) ≡ quantified g s (norm_of g a)
unfolding norm_of
norm_of-All g s a = ap (λ f. f g) (fold-All (Bool → Form) (norm_step) s a)

pub norm_of-Ex : (g : Bool) (s : ℕ) (a : Form) → norm_of g (Ex s a) ≡ quantified (not g) s (norm_of g a)
unfolding norm_of
norm_of-Ex g s a = ap (λ f. f g) (fold-Ex (Bool → Form) (norm_step) s a)

pub ruleset norm_equations = (norm_of-Atom, norm_of-Eq, norm_of-Not, norm_of-And, norm_of-Or, norm_of-Imp, norm_of-Iff, norm_of-All, norm_of-Ex)

-- A quantifier stays where its variable stands in the body, and else goes.
pub quantified-kept : (g : Bool) (s : ℕ) (a : Form) → has_variable 0 a ≡ true → quantified g s a ≡ quantifier g s a
unfolding quantified
quantified-kept g s a e = rw e refl

pub quantified-dropped : (g : Bool) (s : ℕ) (a : Form) → has_variable 0 a ≡ false → quantified g s a ≡ instance_at (Var 0) 0 a
unfolding quantified
quantified-dropped g s a e = rw e refl

-- A node is ended or not.
pub joined_flat-ended : (g : Bool) (as_ : List Form) → list_any (ends g) as_ ≡ true → joined_flat g as_ ≡ node (not g) []
unfolding joined_flat
joined_flat-ended g as_ e = rw e refl

pub joined_flat-alone : (g : Bool) (as_ : List Form) → list_any (ends g) as_ ≡ false → joined_flat g as_ ≡ alone g as_
unfolding joined_flat
joined_flat-alone g as_ e = rw e refl
