-- Induction over written terms and formulas: what holds of a node where it holds of its parts holds of each tree.
use Rattle.std.specs.Prelude.{List, [], ◌∷◌, map}
use Rattle.std.specs.List.{AllByRecursion}
use Rattle.std.proofs.Common.{subst}
use Rattle.tptp_base.specs.declared.surface.STerm.{STerm}
use Rattle.tptp_base.specs.declared.surface.STerm.TheVariants as tm
use Rattle.tptp_base.specs.declared.surface.STerm.TheOpen as st
use Rattle.tptp_base.specs.declared.surface.STerm.TheViews.{roll-STerm}
use Rattle.tptp_base.specs.declared.surface.STerm.TheFolds.{ind-STerm, map-STerm}
use Rattle.tptp_base.specs.declared.surface.Surface.{Surface}
use Rattle.tptp_base.specs.declared.surface.Surface.TheVariants as fm
use Rattle.tptp_base.specs.declared.surface.Surface.TheOpen as sf
use Rattle.tptp_base.specs.declared.surface.Surface.TheViews.{roll-Surface}
use Rattle.tptp_base.specs.declared.surface.Surface.TheFolds.{ind-Surface, map-Surface}
use Rattle.tptp_base.specs.declared.surface.BoundVar.{BoundVar}
use Rattle.tptp_base.specs.declared.surface.BinOp.{BinOp}
use Rattle.tptp_base.specs.declared.surface.Quant.{Quant}
use Rattle.sort_check.specs.Symbols.{Text}
use denote.Hole.Carrier.{roll}

each : {X : Type 0} (P : X → Type 0) (es : List ((x : X) × P x)) → AllByRecursion P (map (λ e. e.0) es)
each P [] = tt
each P (e ∷ es) = (e.1, each P es)

-- a proof for each kind of term
pub record TermCases (P : STerm → Type 0) : Type 0 where
  pub var : (x : Text) → P (tm.Var x)
  pub app : (f : Text) (ts : List STerm) → AllByRecursion P ts → P (tm.App f ts)

term_layer : (P : STerm → Type 0) → TermCases P → (y : st.STerm-F ((t : STerm) × P t)) → P (roll-STerm (map-STerm ((t : STerm) × P t) STerm (λ e. e.0) y))
unfolding roll-STerm roll
term_layer P c (st.Var x) = c.var x
term_layer P c (st.App f es) = c.app f (map (λ e. e.0) es) (each P es)

pub term_induction : (P : STerm → Type 0) → TermCases P → (t : STerm) → P t
term_induction P c = ind-STerm P (λ x y is. subst (λ z. P (roll-STerm z)) is (term_layer P c y))

-- a proof for each kind of formula
pub record FormCases (P : Surface → Type 0) : Type 0 where
  pub truth : P fm.True
  pub falsity : P fm.False
  pub atom : (p : Text) (ts : List STerm) → P (fm.Atom p ts)
  pub eq : (l r : STerm) → P (fm.Eq l r)
  pub neq : (l r : STerm) → P (fm.Neq l r)
  pub not : (a : Surface) → P a → P (fm.Not a)
  pub and : (as_ : List Surface) → AllByRecursion P as_ → P (fm.And as_)
  pub or : (as_ : List Surface) → AllByRecursion P as_ → P (fm.Or as_)
  pub binary : (op : BinOp) (a b : Surface) → P a → P b → P (fm.Binary op a b)
  pub bind : (quant : Quant) (xs : List BoundVar) (a : Surface) → P a → P (fm.Bind quant xs a)

form_layer : (P : Surface → Type 0) → FormCases P → (y : sf.Surface-F ((a : Surface) × P a)) → P (roll-Surface (map-Surface ((a : Surface) × P a) Surface (λ e. e.0) y))
unfolding roll-Surface roll
form_layer P c sf.True = c.truth
form_layer P c sf.False = c.falsity
form_layer P c (sf.Atom p ts) = c.atom p ts
form_layer P c (sf.Eq l r) = c.eq l r
form_layer P c (sf.Neq l r) = c.neq l r
form_layer P c (sf.Not e) = c.not e.0 e.1
form_layer P c (sf.And es) = c.and (map (λ e. e.0) es) (each P es)
form_layer P c (sf.Or es) = c.or (map (λ e. e.0) es) (each P es)
form_layer P c (sf.Binary op e f) = c.binary op e.0 f.0 e.1 f.1
form_layer P c (sf.Bind quant xs e) = c.bind quant xs e.0 e.1

pub form_induction : (P : Surface → Type 0) → FormCases P → (a : Surface) → P a
form_induction P c = ind-Surface P (λ x y is. subst (λ z. P (roll-Surface z)) is (form_layer P c y))
