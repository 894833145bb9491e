-- How deeply a formula nests that stands as a unit.
use Rattle.std.specs.Prelude.{ℕ}
use Rattle.tptp_base.specs.declared.surface.Surface.{Surface}
use Rattle.derivation_limits.specs.Nesting.{as_unit, nested}

abbrev pub unit_nesting : Surface → ℕ
unit_nesting formula = as_unit (nested formula)
