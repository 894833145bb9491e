use Rattle.std.proofs.Common.{◌≡◌, ◌++◌, drop}
use Rattle.function_choices.specs.Told.{either}
use Rattle.function_choices.proofs.told.either.Given as goal

abbrev pub invariant-loop-place : goal.invariant-loop-place
invariant-loop-place l = l.made ++ either (drop l.place l.first) (drop l.place l.second) ≡ either l.first l.second
