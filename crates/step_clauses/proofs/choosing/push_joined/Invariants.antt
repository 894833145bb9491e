use Rattle.std.proofs.Common.{◌≡◌, ◌++◌, take, map}
use Rattle.step_clauses.proofs.choosing.push_joined.Given as goal

abbrev pub invariant-loop-other : goal.invariant-loop-other
invariant-loop-other l = l.joined ≡ l.fn.joined ++ map (λ other. l.choice ++ other) (take l.other-index l.right)
