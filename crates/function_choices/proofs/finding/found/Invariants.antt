use Rattle.std.proofs.Common.{take}
use Rattle.std.specs.List.{AllByRecursion}
use Rattle.fof_terms.specs.Scope.{scope_sorts}
use Rattle.function_choices.specs.Choices.{MayStand}
use Rattle.function_choices.proofs.finding.found.Given as goal

abbrev pub invariant-loop-symbol : goal.invariant-loop-symbol
invariant-loop-symbol l = AllByRecursion (λ g. MayStand l.sig l.atoms (scope_sorts l.scope) l.before l.sort l.body g → ⊥) (take l.symbol-index l.symbols)
