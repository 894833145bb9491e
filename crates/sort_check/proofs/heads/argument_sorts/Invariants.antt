use Rattle.std.proofs.Common.{◌≡◌, take, map}
use Rattle.sort_check.specs.Symbols.{place_sort}
use Rattle.sort_check.specs.Denotation.{known_sort}
use Rattle.sort_check.proofs.heads.argument_sorts.Given as goal

abbrev pub invariant-loop-arg : goal.invariant-loop-arg
invariant-loop-arg l = l.sorts ≡ map (place_sort l.scope.by_place l.signature) (map (known_sort l.scope.variables l.signature) (take l.arg-index l.args))
