-- How deeply terms and formulas nest, and the room that is left within them.
use Rattle.std.specs.Prelude.{ℕ, ◌≡◌, ◌+◌, ◌-◌, ◌<◌, ◌≤◌, ◌↔◌, max, min, Bool, true, false, if◌then◌else◌, List, [], ◌∷◌, length, map, take, refl, IsTrue}
use Rattle.std.proofs.Common.{ap, subst, ◌∙◌, arith}
use Rattle.std.proofs.lemmas.List.{length-map, take_all}
use Rattle.std.proofs.lemmas.Simd.{map-map}
use Rattle.tptp_base.specs.declared.surface.STerm.{STerm}
use Rattle.tptp_base.specs.declared.surface.STerm.TheVariants as tm
use Rattle.tptp_base.specs.declared.surface.Surface.{Surface}
use Rattle.tptp_base.specs.declared.surface.Surface.TheVariants as fm
use Rattle.tptp_base.specs.declared.surface.BoundVar.{BoundVar}
use Rattle.tptp_base.specs.declared.surface.BinOp.{BinOp}
use Rattle.tptp_base.specs.declared.surface.Quant.{Quant}
use Rattle.fof_terms.specs.Lift.{greatest}
use Rattle.derivation_limits.specs.Nesting.{Nested, alone, applied_nesting, as_unit, grouping, nested, nesting_of, nesting_step, term_nesting, term_nesting_step}
use Rattle.derivation_limits.specs.code.Units.{unit_nesting}
use Rattle.sort_check.proofs.Equations.{fold-Var, fold-App, fold-True, fold-False, fold-Atom, fold-Eq, fold-Neq, fold-Not, fold-And, fold-Or, fold-Binary, fold-Bind}
use Rattle.sort_check.specs.Symbols.{Text}

pub term_nesting-Var : (name : Text) → term_nesting (tm.Var name) ≡ 0
unfolding term_nesting
term_nesting-Var name = fold-Var ℕ term_nesting_step name

pub term_nesting-App : (word : Text) (args : List STerm) → term_nesting (tm.App word args) ≡ applied_nesting (map term_nesting args)
unfolding term_nesting
term_nesting-App word args = fold-App ℕ term_nesting_step word args

pub ruleset term_nesting_equations = (term_nesting-Var, term_nesting-App)

pub nested-True : nested fm.True ≡ alone 0
unfolding nested
nested-True = fold-True Nested nesting_step

pub nested-False : nested fm.False ≡ alone 0
unfolding nested
nested-False = fold-False Nested nesting_step

pub nested-Atom : (word : Text) (args : List STerm) → nested (fm.Atom word args) ≡ alone (applied_nesting (map term_nesting args))
unfolding nested
nested-Atom word args = fold-Atom Nested nesting_step word args

pub nested-Eq : (left right : STerm) → nested (fm.Eq left right) ≡ alone (max (term_nesting left) (term_nesting right))
unfolding nested
nested-Eq left right = fold-Eq Nested nesting_step left right

pub nested-Neq : (left right : STerm) → nested (fm.Neq left right) ≡ alone (max (term_nesting left) (term_nesting right))
unfolding nested
nested-Neq left right = fold-Neq Nested nesting_step left right

pub nested-Not : (part : Surface) → nested (fm.Not part) ≡ alone (1 + unit_nesting part)
unfolding nested
nested-Not part = fold-Not Nested nesting_step part

pub nested-And : (parts : List Surface) → nested (fm.And parts) ≡ grouping (greatest (map unit_nesting parts))
unfolding nested
nested-And parts = fold-And Nested nesting_step parts ∙ ap (λ ns. grouping (greatest ns)) (map-map as_unit _ parts)

pub nested-Or : (parts : List Surface) → nested (fm.Or parts) ≡ grouping (greatest (map unit_nesting parts))
unfolding nested
nested-Or parts = fold-Or Nested nesting_step parts ∙ ap (λ ns. grouping (greatest ns)) (map-map as_unit _ parts)

pub nested-Binary : (operator : BinOp) (left right : Surface) → nested (fm.Binary operator left right) ≡ grouping (max (unit_nesting left) (unit_nesting right))
unfolding nested
nested-Binary operator left right = fold-Binary Nested nesting_step operator left right

pub nested-Bind : (quantifier : Quant) (variables : List BoundVar) (part : Surface) → nested (fm.Bind quantifier variables part) ≡ alone (max 1 (length variables + unit_nesting part))
unfolding nested
nested-Bind quantifier variables part = fold-Bind Nested nesting_step quantifier variables part

pub ruleset nesting_equations = (nested-True, nested-False, nested-Atom, nested-Eq, nested-Neq, nested-Not, nested-And, nested-Or, nested-Binary, nested-Bind)

-- ---- room

applied_is : (ns : List ℕ) → applied_nesting ns ≡ min 1 (length ns) + greatest ns
applied_is [] = omega arith
applied_is (n ∷ ns) = omega arith

-- the arguments of a word, by the room within its parentheses
module _ (args : List STerm) (room inside : ℕ) (is : inside ≡ room - min 1 (length args)) where
  pub args_within : (greatest (map term_nesting args) < inside) ↔ (applied_nesting (map term_nesting args) < room)
  args_within =
      let whole = applied_is (map term_nesting args) in
      let count = length-map args term_nesting in
      (λ h. omega (arith, whole, count), λ h. omega (arith, whole, count))

  pub no_room : inside ≡ 0 → IsTrue false ↔ (applied_nesting (map term_nesting args) < room)
  no_room none = (λ h. absurd (cc), λ h. let deep = args_within.1 h in absurd (omega arith))

  pub all_within : (i : ℕ) → length args ≤ i → greatest (map term_nesting (take i args)) < inside → IsTrue true ↔ (applied_nesting (map term_nesting args) < room)
  all_within i past below = (λ h. args_within.0 (subst (λ (ts : List STerm). greatest (map term_nesting ts) < inside) (take_all i args past) below), λ h. refl)

unit_by : (grouped : Bool) (depth room inside : ℕ) → inside ≡ room - (if grouped then 1 else 0) → (depth < inside) ↔ ((if grouped then 1 else 0) + depth < room)
unit_by true depth room inside is = (λ h. omega arith, λ h. omega arith)
unit_by false depth room inside is = (λ h. omega arith, λ h. omega arith)

-- a formula that stands as a unit, by the room within its parentheses
pub unit_within : (f : Surface) (room inside : ℕ) → inside ≡ room - (if (nested f).grouped then 1 else 0) → (nesting_of f < inside) ↔ (unit_nesting f < room)
unit_within f room inside is = unit_by (nested f).grouped (nested f).depth room inside is
