-- The size of a term, a formula or a general term by those of its parts.
use Rattle.std.proofs.Common.{◌≡◌, ℕ, List, map}
use Rattle.tptp_base.specs.declared.surface.STerm.{STerm}
use Rattle.tptp_base.specs.declared.surface.STerm.TheVariants as tm
use Rattle.tptp_base.specs.declared.surface.STerm.TheOpen as st
use Rattle.tptp_base.specs.declared.surface.STerm.TheViews.{roll-STerm}
use Rattle.tptp_base.specs.declared.surface.STerm.TheFolds.{fold-roll-STerm}
use Rattle.tptp_base.specs.declared.surface.Surface.{Surface}
use Rattle.tptp_base.specs.declared.surface.Surface.TheVariants as fm
use Rattle.tptp_base.specs.declared.surface.Surface.TheOpen as sf
use Rattle.tptp_base.specs.declared.surface.Surface.TheViews.{roll-Surface}
use Rattle.tptp_base.specs.declared.surface.Surface.TheFolds.{fold-roll-Surface}
use Rattle.tptp_base.specs.declared.surface.BoundVar.{BoundVar}
use Rattle.tptp_base.specs.declared.surface.BinOp.{BinOp}
use Rattle.tptp_base.specs.declared.surface.Quant.{Quant}
use Rattle.tptp_base.specs.declared.item.GTerm.{GTerm}
use Rattle.tptp_base.specs.declared.item.GTerm.TheVariants as general
use Rattle.tptp_base.specs.declared.item.GTerm.TheOpen as gt
use Rattle.tptp_base.specs.declared.item.GTerm.TheViews.{roll-GTerm}
use Rattle.tptp_base.specs.declared.item.GTerm.TheFolds.{fold-roll-GTerm}
use Rattle.tptp_base.specs.declared.item.Lang.{Lang}
use Rattle.tptp_base.specs.Sizes.{Size, small, one_variable, both, list_of, size_at, size_of_term, size_in, size_of_form, size_within, size_of_general}
use denote.Hole.Carrier.{roll}

-- ---- one equation for each node

pub size-Var : (x : List ℕ) → size_of_term (tm.Var x) ≡ one_variable
unfolding size_of_term roll-STerm roll
size-Var x = fold-roll-STerm Size size_at (st.Var x)

pub size-App : (f : List ℕ) (ts : List STerm) → size_of_term (tm.App f ts) ≡ list_of (map size_of_term ts)
unfolding size_of_term roll-STerm roll
size-App f ts = fold-roll-STerm Size size_at (st.App f ts)

pub size-True : size_of_form fm.True ≡ small
unfolding size_of_form roll-Surface roll
size-True = fold-roll-Surface Size size_in sf.True

pub size-False : size_of_form fm.False ≡ small
unfolding size_of_form roll-Surface roll
size-False = fold-roll-Surface Size size_in sf.False

pub size-Atom : (p : List ℕ) (ts : List STerm) → size_of_form (fm.Atom p ts) ≡ list_of (map size_of_term ts)
unfolding size_of_form roll-Surface roll
size-Atom p ts = fold-roll-Surface Size size_in (sf.Atom p ts)

pub size-Eq : (l r : STerm) → size_of_form (fm.Eq l r) ≡ both (size_of_term l) (size_of_term r)
unfolding size_of_form roll-Surface roll
size-Eq l r = fold-roll-Surface Size size_in (sf.Eq l r)

pub size-Neq : (l r : STerm) → size_of_form (fm.Neq l r) ≡ both (size_of_term l) (size_of_term r)
unfolding size_of_form roll-Surface roll
size-Neq l r = fold-roll-Surface Size size_in (sf.Neq l r)

pub size-Not : (a : Surface) → size_of_form (fm.Not a) ≡ size_of_form a
unfolding size_of_form roll-Surface roll
size-Not a = fold-roll-Surface Size size_in (sf.Not a)

pub size-And : (as_ : List Surface) → size_of_form (fm.And as_) ≡ list_of (map size_of_form as_)
unfolding size_of_form roll-Surface roll
size-And as_ = fold-roll-Surface Size size_in (sf.And as_)

pub size-Or : (as_ : List Surface) → size_of_form (fm.Or as_) ≡ list_of (map size_of_form as_)
unfolding size_of_form roll-Surface roll
size-Or as_ = fold-roll-Surface Size size_in (sf.Or as_)

pub size-Binary : (op : BinOp) (a b : Surface) → size_of_form (fm.Binary op a b) ≡ both (size_of_form a) (size_of_form b)
unfolding size_of_form roll-Surface roll
size-Binary op a b = fold-roll-Surface Size size_in (sf.Binary op a b)

pub size-Bind : (quant : Quant) (xs : List BoundVar) (a : Surface) → size_of_form (fm.Bind quant xs a) ≡ both (list_of (map (λ x. one_variable) xs)) (size_of_form a)
unfolding size_of_form roll-Surface roll
size-Bind quant xs a = fold-roll-Surface Size size_in (sf.Bind quant xs a)

pub size-Word : (word : List ℕ) → size_of_general (general.Word word) ≡ small
unfolding size_of_general roll-GTerm roll
size-Word word = fold-roll-GTerm Size size_within (gt.Word word)

pub size-Func : (word : List ℕ) (parts : List GTerm) → size_of_general (general.Func word parts) ≡ list_of (map size_of_general parts)
unfolding size_of_general roll-GTerm roll
size-Func word parts = fold-roll-GTerm Size size_within (gt.Func word parts)

pub size-general-Var : (name : List ℕ) → size_of_general (general.Var name) ≡ one_variable
unfolding size_of_general roll-GTerm roll
size-general-Var name = fold-roll-GTerm Size size_within (gt.Var name)

pub size-Number : (number : List ℕ) → size_of_general (general.Number number) ≡ small
unfolding size_of_general roll-GTerm roll
size-Number number = fold-roll-GTerm Size size_within (gt.Number number)

pub size-Distinct : (chars : List ℕ) → size_of_general (general.Distinct chars) ≡ small
unfolding size_of_general roll-GTerm roll
size-Distinct chars = fold-roll-GTerm Size size_within (gt.Distinct chars)

pub size-Formula : (lang : Lang) (form : Surface) → size_of_general (general.Formula lang form) ≡ size_of_form form
unfolding size_of_general roll-GTerm roll
size-Formula lang form = fold-roll-GTerm Size size_within (gt.Formula lang form)

pub size-Term : (term : STerm) → size_of_general (general.Term term) ≡ size_of_term term
unfolding size_of_general roll-GTerm roll
size-Term term = fold-roll-GTerm Size size_within (gt.Term term)

pub size-List : (parts : List GTerm) → size_of_general (general.List parts) ≡ list_of (map size_of_general parts)
unfolding size_of_general roll-GTerm roll
size-List parts = fold-roll-GTerm Size size_within (gt.List parts)

pub size-Pair : (left right : GTerm) → size_of_general (general.Pair left right) ≡ both (size_of_general left) (size_of_general right)
unfolding size_of_general roll-GTerm roll
size-Pair left right = fold-roll-GTerm Size size_within (gt.Pair left right)
