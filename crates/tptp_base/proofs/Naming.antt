-- The names of a term or a formula by those of its parts.
use Rattle.std.proofs.Common.{◌≡◌, ℕ, List, [], ◌∷◌, ◌++◌, map}
use Rattle.std.specs.List.{AllByRecursion}
use Rattle.tptp_base.specs.declared.surface.STerm.{STerm}
use Rattle.tptp_base.specs.declared.surface.STerm.TheVariants as tm
use Rattle.tptp_base.specs.declared.surface.STerm.TheOpen as st
use Rattle.tptp_base.specs.declared.surface.STerm.TheViews.{roll-STerm}
use Rattle.tptp_base.specs.declared.surface.STerm.TheFolds.{fold-roll-STerm}
use Rattle.tptp_base.specs.declared.surface.Surface.{Surface}
use Rattle.tptp_base.specs.declared.surface.Surface.TheVariants as fm
use Rattle.tptp_base.specs.declared.surface.Surface.TheOpen as sf
use Rattle.tptp_base.specs.declared.surface.Surface.TheViews.{roll-Surface}
use Rattle.tptp_base.specs.declared.surface.Surface.TheFolds.{fold-roll-Surface}
use Rattle.tptp_base.specs.declared.surface.BoundVar.{BoundVar}
use Rattle.tptp_base.specs.declared.surface.BinOp.{BinOp}
use Rattle.tptp_base.specs.declared.surface.Quant.{Quant}
use Rattle.tptp_base.specs.Names.{Names, together, names_at, names_of_term, names_in, names_of_form}
use Rattle.tptp_base.specs.Quotable.{AreQuotable}
use denote.Hole.Carrier.{roll}

-- ---- one equation for each node

pub names-Var : (x : List ℕ) → names_of_term (tm.Var x) ≡ []
unfolding names_of_term roll-STerm roll
names-Var x = fold-roll-STerm Names names_at (st.Var x)

pub names-App : (f : List ℕ) (ts : List STerm) → names_of_term (tm.App f ts) ≡ f ∷ together (map names_of_term ts)
unfolding names_of_term roll-STerm roll
names-App f ts = fold-roll-STerm Names names_at (st.App f ts)

pub names-True : names_of_form fm.True ≡ []
unfolding names_of_form roll-Surface roll
names-True = fold-roll-Surface Names names_in sf.True

pub names-False : names_of_form fm.False ≡ []
unfolding names_of_form roll-Surface roll
names-False = fold-roll-Surface Names names_in sf.False

pub names-Atom : (p : List ℕ) (ts : List STerm) → names_of_form (fm.Atom p ts) ≡ p ∷ together (map names_of_term ts)
unfolding names_of_form roll-Surface roll
names-Atom p ts = fold-roll-Surface Names names_in (sf.Atom p ts)

pub names-Eq : (l r : STerm) → names_of_form (fm.Eq l r) ≡ names_of_term l ++ names_of_term r
unfolding names_of_form roll-Surface roll
names-Eq l r = fold-roll-Surface Names names_in (sf.Eq l r)

pub names-Neq : (l r : STerm) → names_of_form (fm.Neq l r) ≡ names_of_term l ++ names_of_term r
unfolding names_of_form roll-Surface roll
names-Neq l r = fold-roll-Surface Names names_in (sf.Neq l r)

pub names-Not : (a : Surface) → names_of_form (fm.Not a) ≡ names_of_form a
unfolding names_of_form roll-Surface roll
names-Not a = fold-roll-Surface Names names_in (sf.Not a)

pub names-And : (as_ : List Surface) → names_of_form (fm.And as_) ≡ together (map names_of_form as_)
unfolding names_of_form roll-Surface roll
names-And as_ = fold-roll-Surface Names names_in (sf.And as_)

pub names-Or : (as_ : List Surface) → names_of_form (fm.Or as_) ≡ together (map names_of_form as_)
unfolding names_of_form roll-Surface roll
names-Or as_ = fold-roll-Surface Names names_in (sf.Or as_)

pub names-Binary : (op : BinOp) (a b : Surface) → names_of_form (fm.Binary op a b) ≡ names_of_form a ++ names_of_form b
unfolding names_of_form roll-Surface roll
names-Binary op a b = fold-roll-Surface Names names_in (sf.Binary op a b)

pub names-Bind : (quant : Quant) (xs : List BoundVar) (a : Surface) → names_of_form (fm.Bind quant xs a) ≡ names_of_form a
unfolding names_of_form roll-Surface roll
names-Bind quant xs a = fold-roll-Surface Names names_in (sf.Bind quant xs a)

-- ---- names of which each is quotable

pub quotable_both : (xs ys : Names) → AreQuotable xs → AreQuotable ys → AreQuotable (xs ++ ys)
quotable_both [] ys first second = second
quotable_both (x ∷ xs) ys first second = (first.0, quotable_both xs ys first.1 second)

pub quotable_parts : (xs ys : Names) → AreQuotable (xs ++ ys) → AreQuotable xs × AreQuotable ys
quotable_parts [] ys all = (tt, all)
quotable_parts (x ∷ xs) ys all = (let rest = quotable_parts xs ys all.1 in ((all.0, rest.0), rest.1))

module _ {X : Type 0} (names : X → Names) where
  pub quotable_of_each : (xs : List X) → AllByRecursion (λ x. AreQuotable (names x)) xs → AreQuotable (together (map names xs))
  quotable_of_each [] all = tt
  quotable_of_each (x ∷ xs) all = quotable_both (names x) (together (map names xs)) all.0 (quotable_of_each xs all.1)

  pub quotable_in_each : (xs : List X) → AreQuotable (together (map names xs)) → AllByRecursion (λ x. AreQuotable (names x)) xs
  quotable_in_each [] all = tt
  quotable_in_each (x ∷ xs) all = (let parts = quotable_parts (names x) (together (map names xs)) all in (parts.0, quotable_in_each xs parts.1))
