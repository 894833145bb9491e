use Rattle.std.proofs.Common.{◌≡◌, take}
use Rattle.function_choices.specs.Reading.{told}
use Rattle.function_choices.proofs.reading.told.Given as goal

abbrev pub invariant-loop-pattern : goal.invariant-loop-pattern
invariant-loop-pattern l = l.told ≡ told l.function (take l.pattern-index l.patterns) l.atoms
