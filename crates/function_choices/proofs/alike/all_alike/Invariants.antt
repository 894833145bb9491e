use Rattle.std.proofs.Common.{◌≡◌, take, true}
use Rattle.function_choices.specs.Alike.{each_alike}
use Rattle.function_choices.proofs.alike.all_alike.Given as goal

abbrev pub invariant-loop-pattern : goal.invariant-loop-pattern
invariant-loop-pattern l = each_alike l.function (take l.pattern-index l.patterns) l.atoms ≡ true
