-- How deeply a formula nests as canonical texts spell it: at the token where most of these stand around it, counting
-- parentheses and brackets that are open, negations, and bound variables.
use Rattle.std.specs.Prelude.{ℕ, ◌+◌, max, Bool, true, false, if◌then◌else◌, List, [], ◌∷◌, length, map}
use Rattle.tptp_base.specs.declared.surface.STerm.{STerm}
use Rattle.tptp_base.specs.declared.surface.STerm.TheFolds.{fold-STerm}
use Rattle.tptp_base.specs.declared.surface.STerm.TheOpen as tm
use Rattle.tptp_base.specs.declared.surface.Surface.{Surface}
use Rattle.tptp_base.specs.declared.surface.Surface.TheFolds.{fold-Surface}
use Rattle.tptp_base.specs.declared.surface.Surface.TheOpen as fm
use Rattle.fof_terms.specs.Lift.{greatest}

-- a word with arguments that nest so: these stand in parentheses, where there are any
abbrev pub applied_nesting : List ℕ → ℕ
applied_nesting [] = 0
applied_nesting (n ∷ ns) = 1 + greatest (n ∷ ns)

abbrev pub term_nesting_step : tm.STerm-F ℕ → ℕ
term_nesting_step (tm.Var name) = 0
term_nesting_step (tm.App word args) = applied_nesting args

unfoldable pub term_nesting : STerm → ℕ
term_nesting = fold-STerm ℕ term_nesting_step

-- how deeply a formula nests, and whether it is an And, an Or or a Binary: such a formula stands in parentheses where
-- the syntax wants a <fof_unit_formula>
pub record Nested : Type 0 where
  pub grouped : Bool
  pub depth : ℕ

abbrev pub alone : ℕ → Nested
alone depth = record { grouped = false; depth = depth }

abbrev pub grouping : ℕ → Nested
grouping depth = record { grouped = true; depth = depth }

abbrev pub as_unit : Nested → ℕ
as_unit part = (if part.grouped then 1 else 0) + part.depth

abbrev pub nesting_step : fm.Surface-F Nested → Nested
nesting_step fm.True = alone 0
nesting_step fm.False = alone 0
nesting_step (fm.Atom word args) = alone (applied_nesting (map term_nesting args))
nesting_step (fm.Eq left right) = alone (max (term_nesting left) (term_nesting right))
nesting_step (fm.Neq left right) = alone (max (term_nesting left) (term_nesting right))
nesting_step (fm.Not part) = alone (1 + as_unit part)
nesting_step (fm.And parts) = grouping (greatest (map as_unit parts))
nesting_step (fm.Or parts) = grouping (greatest (map as_unit parts))
nesting_step (fm.Binary operator left right) = grouping (max (as_unit left) (as_unit right))
nesting_step (fm.Bind quantifier variables part) = alone (max 1 (length variables + as_unit part))

unfoldable pub nested : Surface → Nested
nested = fold-Surface Nested nesting_step

abbrev pub nesting_of : Surface → ℕ
nesting_of formula = (nested formula).depth
