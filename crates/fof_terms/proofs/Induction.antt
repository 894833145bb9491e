-- Induction over terms and formulas: what holds of a node where it holds of its parts holds of each tree.
use Rattle.std.specs.Prelude.{ℕ, List, [], ◌∷◌, map}
use Rattle.std.specs.List.{AllByRecursion}
use Rattle.std.proofs.Common.{subst}
use Rattle.fof_terms.specs.declared.term.Term.{Term, Var, App}
use Rattle.fof_terms.specs.declared.term.Term.TheViews.{roll-Term}
use Rattle.fof_terms.specs.declared.term.Term.TheFolds.{ind-Term, map-Term}
use Rattle.fof_terms.specs.declared.form.Form.{Form, Atom, Eq, Not, And, Or, Imp, Iff, All, Ex}
use Rattle.fof_terms.specs.declared.form.Form.TheViews.{roll-Form}
use Rattle.fof_terms.specs.declared.form.Form.TheFolds.{ind-Form, map-Form}
use denote.Hole.Carrier.{roll}
use Rattle.fof_terms.specs.declared.term.Term.TheOpen as term
use Rattle.fof_terms.specs.declared.form.Form.TheOpen as form

each : {X : Type 0} (P : X → Type 0) (es : List ((x : X) × P x)) → AllByRecursion P (map (λ e. e.0) es)
each P [] = tt
each P (e ∷ es) = (e.1, each P es)

-- a proof for each kind of term
pub record TermCases (P : Term → Type 0) : Type 0 where
  pub var : (k : ℕ) → P (Var k)
  pub app : (f : ℕ) (ts : List Term) → AllByRecursion P ts → P (App f ts)

term_layer : (P : Term → Type 0) → TermCases P → (y : term.Term-F ((t : Term) × P t)) → P (roll-Term (map-Term ((t : Term) × P t) Term (λ e. e.0) y))
unfolding roll-Term roll
term_layer P c (term.Var k) = c.var k
term_layer P c (term.App f es) = c.app f (map (λ e. e.0) es) (each P es)

pub term_induction : (P : Term → Type 0) → TermCases P → (t : Term) → P t
term_induction P c = ind-Term P (λ x y is. subst (λ z. P (roll-Term z)) is (term_layer P c y))

-- a proof for each kind of formula
pub record FormCases (P : Form → Type 0) : Type 0 where
  pub atom : (p : ℕ) (ts : List Term) → P (Atom p ts)
  pub eq : (l r : Term) → P (Eq l r)
  pub not : (a : Form) → P a → P (Not a)
  pub and : (as_ : List Form) → AllByRecursion P as_ → P (And as_)
  pub or : (as_ : List Form) → AllByRecursion P as_ → P (Or as_)
  pub imp : (a b : Form) → P a → P b → P (Imp a b)
  pub iff : (a b : Form) → P a → P b → P (Iff a b)
  pub all : (s : ℕ) (a : Form) → P a → P (All s a)
  pub ex : (s : ℕ) (a : Form) → P a → P (Ex s a)

form_layer : (P : Form → Type 0) → FormCases P → (y : form.Form-F ((a : Form) × P a)) → P (roll-Form (map-Form ((a : Form) × P a) Form (λ e. e.0) y))
unfolding roll-Form roll
form_layer P c (form.Atom p ts) = c.atom p ts
form_layer P c (form.Eq l r) = c.eq l r
form_layer P c (form.Not e) = c.not e.0 e.1
form_layer P c (form.And es) = c.and (map (λ e. e.0) es) (each P es)
form_layer P c (form.Or es) = c.or (map (λ e. e.0) es) (each P es)
form_layer P c (form.Imp e f) = c.imp e.0 f.0 e.1 f.1
form_layer P c (form.Iff e f) = c.iff e.0 f.0 e.1 f.1
form_layer P c (form.All s e) = c.all s e.0 e.1
form_layer P c (form.Ex s e) = c.ex s e.0 e.1

pub form_induction : (P : Form → Type 0) → FormCases P → (a : Form) → P a
form_induction P c = ind-Form P (λ x y is. subst (λ z. P (roll-Form z)) is (form_layer P c y))
