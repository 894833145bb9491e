use Rattle.std.proofs.Common.{take}
use Rattle.std.specs.List.{All as Each}
use Rattle.subsumption.specs.Subsumes.{Subsumes}
use Rattle.saturation.proofs.covering.is_covered.Given as goal

abbrev pub invariant-loop-at : goal.invariant-loop-at
invariant-loop-at l = Each (λ m. Subsumes l.signature m.clause l.clause → ⊥) (take l.at l.list)
