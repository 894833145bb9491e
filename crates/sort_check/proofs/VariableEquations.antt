-- The equations of the variables of terms and formulas.
use Rattle.std.specs.Prelude.{List, ◌≡◌, map}
use Rattle.std.proofs.Common.{ap}
use Rattle.tptp_base.specs.declared.surface.STerm.{STerm}
use Rattle.tptp_base.specs.declared.surface.Surface.{Surface}
use Rattle.tptp_base.specs.declared.surface.BoundVar.{BoundVar}
use Rattle.tptp_base.specs.declared.surface.BinOp.{BinOp}
use Rattle.tptp_base.specs.declared.surface.Quant.{Quant}
use Rattle.sort_check.specs.declared.scope.Variable.{Variable}
use Rattle.sort_check.specs.Symbols.{Text}
use Rattle.sort_check.specs.code.Variables.{noted, in_turn, variables_step, variables_of_term, form_variables_step, variables_of}
use Rattle.sort_check.proofs.Equations.{fold-Var, fold-App, fold-True, fold-False, fold-Atom, fold-Eq, fold-Neq, fold-Not, fold-And, fold-Or, fold-Binary, fold-Bind}
use Rattle.tptp_base.specs.declared.surface.STerm.TheVariants as tm
use Rattle.tptp_base.specs.declared.surface.Surface.TheVariants as fm

abbrev Noting : Type 0
Noting = List Variable → List Variable

module _ (found : List Variable) where
  pub of_term-Var : (x : Text) → variables_of_term (tm.Var x) found ≡ noted x found
  unfolding variables_of_term
  of_term-Var x = ap (λ m. m found) (fold-Var Noting variables_step x)

  pub of_term-App : (f : Text) (ts : List STerm) → variables_of_term (tm.App f ts) found ≡ in_turn (map variables_of_term ts) found
  unfolding variables_of_term
  of_term-App f ts = ap (λ m. m found) (fold-App Noting variables_step f ts)

  pub of-True : variables_of fm.True found ≡ found
  unfolding variables_of
  of-True = ap (λ m. m found) (fold-True Noting form_variables_step)

  pub of-False : variables_of fm.False found ≡ found
  unfolding variables_of
  of-False = ap (λ m. m found) (fold-False Noting form_variables_step)

  pub of-Atom : (p : Text) (ts : List STerm) → variables_of (fm.Atom p ts) found ≡ in_turn (map variables_of_term ts) found
  unfolding variables_of
  of-Atom p ts = ap (λ m. m found) (fold-Atom Noting form_variables_step p ts)

  pub of-Eq : (l r : STerm) → variables_of (fm.Eq l r) found ≡ variables_of_term r (variables_of_term l found)
  unfolding variables_of
  of-Eq l r = ap (λ m. m found) (fold-Eq Noting form_variables_step l r)

  pub of-Neq : (l r : STerm) → variables_of (fm.Neq l r) found ≡ variables_of_term r (variables_of_term l found)
  unfolding variables_of
  of-Neq l r = ap (λ m. m found) (fold-Neq Noting form_variables_step l r)

  pub of-Not : (a : Surface) → variables_of (fm.Not a) found ≡ variables_of a found
  unfolding variables_of
  of-Not a = ap (λ m. m found) (fold-Not Noting form_variables_step a)

  pub of-And : (as_ : List Surface) → variables_of (fm.And as_) found ≡ in_turn (map variables_of as_) found
  unfolding variables_of
  of-And as_ = ap (λ m. m found) (fold-And Noting form_variables_step as_)

  pub of-Or : (as_ : List Surface) → variables_of (fm.Or as_) found ≡ in_turn (map variables_of as_) found
  unfolding variables_of
  of-Or as_ = ap (λ m. m found) (fold-Or Noting form_variables_step as_)

  pub of-Binary : (op : BinOp) (a b : Surface) → variables_of (fm.Binary op a b) found ≡ variables_of b (variables_of a found)
  unfolding variables_of
  of-Binary op a b = ap (λ m. m found) (fold-Binary Noting form_variables_step op a b)

  pub of-Bind : (quant : Quant) (xs : List BoundVar) (a : Surface) → variables_of (fm.Bind quant xs a) found ≡ variables_of a found
  unfolding variables_of
  of-Bind quant xs a = ap (λ m. m found) (fold-Bind Noting form_variables_step quant xs a)

pub ruleset variables_equations = (of_term-Var, of_term-App, of-True, of-False, of-Atom, of-Eq, of-Neq, of-Not, of-And, of-Or, of-Binary, of-Bind)
