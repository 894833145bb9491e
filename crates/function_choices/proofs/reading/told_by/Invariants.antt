use Rattle.std.proofs.Common.{◌≡◌, drop}
use Rattle.function_choices.specs.Reading.{told_by}
use Rattle.function_choices.proofs.reading.told_by.Given as goal

abbrev pub invariant-loop-placed : goal.invariant-loop-placed
invariant-loop-placed l = told_by l.function (drop l.placed-index l.atoms) l.pattern ≡ told_by l.function l.atoms l.pattern
