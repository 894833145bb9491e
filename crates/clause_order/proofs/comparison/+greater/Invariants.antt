use Rattle.std.proofs.Common.{drop}
use Rattle.std.specs.Prelude.{◌↔◌}
use Rattle.clause_order.specs.code.Inside.{ExceedAtFirst}
use Rattle.clause_order.proofs.comparison.+greater.Given as goal

abbrev pub invariant-exceed_at_first-loop-at : goal.invariant-exceed_at_first-loop-at
invariant-exceed_at_first-loop-at l = ExceedAtFirst (drop l.at l.left) (drop l.at l.right) ↔ ExceedAtFirst l.left
    l.right
