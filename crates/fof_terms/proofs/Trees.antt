-- The equations of folds over terms and formulas, and what equal formulas have in common.
use Rattle.std.specs.Prelude.{ℕ, List, ◌≡◌, map}
use Rattle.std.proofs.Common.{ap, sym, ◌∙◌}
use Rattle.fof_terms.specs.declared.term.Term.{Term, Var, App}
use Rattle.fof_terms.specs.declared.term.Term.TheViews.{roll-Term}
use Rattle.fof_terms.specs.declared.term.Term.TheFolds.{fold-Term, fold-roll-Term}
use Rattle.fof_terms.specs.declared.form.Form.{Form, Atom, Eq, Not, And, Or, Imp, Iff, All, Ex}
use Rattle.fof_terms.specs.declared.form.Form.TheViews.{roll-Form, out-Form, outs-Not, outs-And, outs-Or, outs-Imp, outs-Iff, outs-All, outs-Ex}
use Rattle.fof_terms.specs.declared.form.Form.TheFolds.{fold-Form, fold-roll-Form}
use denote.Hole.Carrier.{roll}
use Rattle.fof_terms.specs.declared.term.Term.TheOpen as term
use Rattle.fof_terms.specs.declared.form.Form.TheOpen as form

pub fold-Var : (A : Type 0) (step : term.Term-F A → A) (k : ℕ) → fold-Term A step (Var k) ≡ step (term.Var k)
unfolding roll-Term roll
fold-Var A step k = fold-roll-Term A step (term.Var k)

pub fold-App : (A : Type 0) (step : term.Term-F A → A) (f : ℕ) (ts : List Term) → fold-Term A step (App f ts) ≡ step (term.App f (map (fold-Term A step) ts))
unfolding roll-Term roll
fold-App A step f ts = fold-roll-Term A step (term.App f ts)

pub fold-Atom : (A : Type 0) (step : form.Form-F A → A) (p : ℕ) (ts : List Term) → fold-Form A step (Atom p ts) ≡ step (form.Atom p ts)
unfolding roll-Form roll
fold-Atom A step p ts = fold-roll-Form A step (form.Atom p ts)

pub fold-Eq : (A : Type 0) (step : form.Form-F A → A) (s t : Term) → fold-Form A step (Eq s t) ≡ step (form.Eq s t)
unfolding roll-Form roll
fold-Eq A step s t = fold-roll-Form A step (form.Eq s t)

pub fold-Not : (A : Type 0) (step : form.Form-F A → A) (a : Form) → fold-Form A step (Not a) ≡ step (form.Not (fold-Form A step a))
unfolding roll-Form roll
fold-Not A step a = fold-roll-Form A step (form.Not a)

pub fold-And : (A : Type 0) (step : form.Form-F A → A) (as_ : List Form) → fold-Form A step (And as_) ≡ step (form.And (map (fold-Form A step) as_))
unfolding roll-Form roll
fold-And A step as_ = fold-roll-Form A step (form.And as_)

pub fold-Or : (A : Type 0) (step : form.Form-F A → A) (as_ : List Form) → fold-Form A step (Or as_) ≡ step (form.Or (map (fold-Form A step) as_))
unfolding roll-Form roll
fold-Or A step as_ = fold-roll-Form A step (form.Or as_)

pub fold-Imp : (A : Type 0) (step : form.Form-F A → A) (a b : Form) → fold-Form A step (Imp a b) ≡ step (form.Imp (fold-Form A step a) (fold-Form A step b))
unfolding roll-Form roll
fold-Imp A step a b = fold-roll-Form A step (form.Imp a b)

pub fold-Iff : (A : Type 0) (step : form.Form-F A → A) (a b : Form) → fold-Form A step (Iff a b) ≡ step (form.Iff (fold-Form A step a) (fold-Form A step b))
unfolding roll-Form roll
fold-Iff A step a b = fold-roll-Form A step (form.Iff a b)

pub fold-All : (A : Type 0) (step : form.Form-F A → A) (s : ℕ) (a : Form) → fold-Form A step (All s a) ≡ step (form.All s (fold-Form A step a))
unfolding roll-Form roll
fold-All A step s a = fold-roll-Form A step (form.All s a)

pub fold-Ex : (A : Type 0) (step : form.Form-F A → A) (s : ℕ) (a : Form) → fold-Form A step (Ex s a) ≡ step (form.Ex s (fold-Form A step a))
unfolding roll-Form roll
fold-Ex A step s a = fold-roll-Form A step (form.Ex s a)

-- `cc` doesn't know this of a variant with a list or a box, whose shape it keeps apart
pub Or-injective : (as_ bs : List Form) → Or as_ ≡ Or bs → as_ ≡ bs
Or-injective as_ bs e = let layers : form.Or as_ ≡ form.Or bs = sym (outs-Or as_) ∙ ap out-Form e ∙ outs-Or bs in cc

pub Not-injective : (a b : Form) → Not a ≡ Not b → a ≡ b
Not-injective a b e = let layers : form.Not a ≡ form.Not b = sym (outs-Not a) ∙ ap out-Form e ∙ outs-Not b in cc

pub And-injective : (as_ bs : List Form) → And as_ ≡ And bs → as_ ≡ bs
And-injective as_ bs e = let layers : form.And as_ ≡ form.And bs = sym (outs-And as_) ∙ ap out-Form e ∙ outs-And bs in cc

pub Imp-injective : (a b c d : Form) → Imp a b ≡ Imp c d → (a ≡ c) × (b ≡ d)
Imp-injective a b c d e = let layers : form.Imp a b ≡ form.Imp c d = sym (outs-Imp a b) ∙ ap out-Form e ∙ outs-Imp c d in (cc, cc)

pub Iff-injective : (a b c d : Form) → Iff a b ≡ Iff c d → (a ≡ c) × (b ≡ d)
Iff-injective a b c d e = let layers : form.Iff a b ≡ form.Iff c d = sym (outs-Iff a b) ∙ ap out-Form e ∙ outs-Iff c d in (cc, cc)

pub All-injective : (s r : ℕ) (a b : Form) → All s a ≡ All r b → (s ≡ r) × (a ≡ b)
All-injective s r a b e = let layers : form.All s a ≡ form.All r b = sym (outs-All s a) ∙ ap out-Form e ∙ outs-All r b in (cc, cc)

pub Ex-injective : (s r : ℕ) (a b : Form) → Ex s a ≡ Ex r b → (s ≡ r) × (a ≡ b)
Ex-injective s r a b e = let layers : form.Ex s a ≡ form.Ex r b = sym (outs-Ex s a) ∙ ap out-Form e ∙ outs-Ex r b in (cc, cc)

pub Eq-injective : (l r m n : Term) → Eq l r ≡ Eq m n → (l ≡ m) × (r ≡ n)
Eq-injective l r m n e = (cc, cc)
