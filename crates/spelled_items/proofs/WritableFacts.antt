-- The equations of what can be written, node by node.
use Rattle.std.proofs.Common.{◌≡◌, Bool, true, List, [], ◌∷◌, map}
use Rattle.std.specs.Prelude.{◌&&◌}
use Rattle.std.specs.List.{list_all}
use Rattle.std.proofs.lemmas.Bool.{and_parts, and_from}
use Rattle.tptp_base.specs.declared.surface.BoundVar.{BoundVar}
use Rattle.tptp_base.specs.declared.surface.BinOp.{BinOp}
use Rattle.tptp_base.specs.declared.surface.Quant.{Quant}
use Rattle.tptp_base.specs.declared.surface.STerm.{STerm}
use Rattle.tptp_base.specs.declared.surface.STerm.TheVariants as tm
use Rattle.tptp_base.specs.declared.surface.Surface.{Surface}
use Rattle.tptp_base.specs.declared.surface.Surface.TheVariants as fm
use Rattle.derivation_items.specs.Words.{Text}
use Rattle.sort_check.proofs.Equations.{fold-Var, fold-App, fold-True, fold-False, fold-Atom, fold-Eq, fold-Neq, fold-Not, fold-And, fold-Or, fold-Binary, fold-Bind}
use Rattle.spelled_items.specs.Writable.{all_true, formula_step, has_one, has_two, is_bound, is_formula, is_term, is_variable, is_word, term_step}

pub is_term-Var : (name : Text) → is_term (tm.Var name) ≡ is_variable name
unfolding is_term
is_term-Var name = fold-Var Bool term_step name

pub is_term-App : (word : Text) (args : List STerm) → is_term (tm.App word args) ≡ (is_word word && all_true (map is_term args))
unfolding is_term
is_term-App word args = fold-App Bool term_step word args

pub is_formula-True : is_formula fm.True ≡ true
unfolding is_formula
is_formula-True = fold-True Bool formula_step

pub is_formula-False : is_formula fm.False ≡ true
unfolding is_formula
is_formula-False = fold-False Bool formula_step

pub is_formula-Atom : (word : Text) (args : List STerm) → is_formula (fm.Atom word args) ≡ (is_word word && list_all is_term args)
unfolding is_formula
is_formula-Atom word args = fold-Atom Bool formula_step word args

pub is_formula-Eq : (left right : STerm) → is_formula (fm.Eq left right) ≡ (is_term left && is_term right)
unfolding is_formula
is_formula-Eq left right = fold-Eq Bool formula_step left right

pub is_formula-Neq : (left right : STerm) → is_formula (fm.Neq left right) ≡ (is_term left && is_term right)
unfolding is_formula
is_formula-Neq left right = fold-Neq Bool formula_step left right

pub is_formula-Not : (part : Surface) → is_formula (fm.Not part) ≡ is_formula part
unfolding is_formula
is_formula-Not part = fold-Not Bool formula_step part

pub is_formula-And : (parts : List Surface) → is_formula (fm.And parts) ≡ (has_two (map is_formula parts) && all_true (map is_formula parts))
unfolding is_formula
is_formula-And parts = fold-And Bool formula_step parts

pub is_formula-Or : (parts : List Surface) → is_formula (fm.Or parts) ≡ (has_two (map is_formula parts) && all_true (map is_formula parts))
unfolding is_formula
is_formula-Or parts = fold-Or Bool formula_step parts

pub is_formula-Binary : (operator : BinOp) (left right : Surface) → is_formula (fm.Binary operator left right) ≡ (is_formula left && is_formula right)
unfolding is_formula
is_formula-Binary operator left right = fold-Binary Bool formula_step operator left right

pub is_formula-Bind : (quantifier : Quant) (variables : List BoundVar) (part : Surface) → is_formula (fm.Bind quantifier variables part) ≡ ((has_one variables && list_all is_bound variables) && is_formula part)
unfolding is_formula
is_formula-Bind quantifier variables part = fold-Bind Bool formula_step quantifier variables part

-- a test of each member, as one of the answers
pub as_mapped : {X : Type 0} (test : X → Bool) (xs : List X) → list_all test xs ≡ true → all_true (map test xs) ≡ true
as_mapped test [] all = all
as_mapped test (x ∷ xs) all =
    let parts = and_parts (test x) (list_all test xs) all in
    and_from (test x) (all_true (map test xs)) parts.0 (as_mapped test xs parts.1)
