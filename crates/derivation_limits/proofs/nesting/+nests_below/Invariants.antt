use Rattle.std.proofs.Common.{◌<◌, take, map}
use Rattle.fof_terms.specs.Lift.{greatest}
use Rattle.derivation_limits.specs.code.Units.{unit_nesting}
use Rattle.derivation_limits.proofs.nesting.+nests_below.Given as goal

abbrev pub invariant-units_below-loop-formula : goal.invariant-units_below-loop-formula
invariant-units_below-loop-formula l = greatest (map unit_nesting (take l.formula-index l.formulas)) < l.room
