-- The equations of written formulas without lists of one, node by node.
use Rattle.std.specs.Prelude.{◌≡◌, ◌&&◌, Bool, true, List, map}
use Rattle.tptp_base.specs.declared.surface.BinOp.{BinOp}
use Rattle.tptp_base.specs.declared.surface.BoundVar.{BoundVar}
use Rattle.tptp_base.specs.declared.surface.Quant.{Quant}
use Rattle.tptp_base.specs.declared.surface.STerm.{STerm}
use Rattle.tptp_base.specs.declared.surface.Surface.{Surface}
use Rattle.tptp_base.specs.declared.surface.Surface.TheVariants as fm
use Rattle.sort_check.proofs.Equations.{fold-True, fold-False, fold-Atom, fold-Eq, fold-Neq, fold-Not, fold-And, fold-Or, fold-Binary, fold-Bind}
use Rattle.sort_check.specs.Symbols.{Text}
use Rattle.printed_forms.specs.Lists.{are_listed}
use Rattle.printed_forms.specs.Written.{writes_no_list_of_one, written_step}

pub writes-True : writes_no_list_of_one fm.True ≡ true
unfolding writes_no_list_of_one
writes-True = fold-True Bool written_step

pub writes-False : writes_no_list_of_one fm.False ≡ true
unfolding writes_no_list_of_one
writes-False = fold-False Bool written_step

pub writes-Atom : (word : Text) (terms : List STerm) → writes_no_list_of_one (fm.Atom word terms) ≡ true
unfolding writes_no_list_of_one
writes-Atom word terms = fold-Atom Bool written_step word terms

pub writes-Eq : (left right : STerm) → writes_no_list_of_one (fm.Eq left right) ≡ true
unfolding writes_no_list_of_one
writes-Eq left right = fold-Eq Bool written_step left right

pub writes-Neq : (left right : STerm) → writes_no_list_of_one (fm.Neq left right) ≡ true
unfolding writes_no_list_of_one
writes-Neq left right = fold-Neq Bool written_step left right

pub writes-Not : (part : Surface) → writes_no_list_of_one (fm.Not part) ≡ writes_no_list_of_one part
unfolding writes_no_list_of_one
writes-Not part = fold-Not Bool written_step part

pub writes-And : (parts : List Surface) → writes_no_list_of_one (fm.And parts) ≡ are_listed (map writes_no_list_of_one parts)
unfolding writes_no_list_of_one
writes-And parts = fold-And Bool written_step parts

pub writes-Or : (parts : List Surface) → writes_no_list_of_one (fm.Or parts) ≡ are_listed (map writes_no_list_of_one parts)
unfolding writes_no_list_of_one
writes-Or parts = fold-Or Bool written_step parts

pub writes-Binary : (operator : BinOp) (left right : Surface) → writes_no_list_of_one (fm.Binary operator left right) ≡ (writes_no_list_of_one left && writes_no_list_of_one right)
unfolding writes_no_list_of_one
writes-Binary operator left right = fold-Binary Bool written_step operator left right

pub writes-Bind : (quantifier : Quant) (variables : List BoundVar) (part : Surface) → writes_no_list_of_one (fm.Bind quantifier variables part) ≡ writes_no_list_of_one part
unfolding writes_no_list_of_one
writes-Bind quantifier variables part = fold-Bind Bool written_step quantifier variables part
