use Rattle.std.proofs.Common.{◌≡◌, take}
use Rattle.step_clauses.specs.code.Chosen.{picks}
use Rattle.step_clauses.proofs.ways.all_picks.Given as goal

abbrev pub invariant-loop-number : goal.invariant-loop-number
invariant-loop-number l = l.made ≡ picks 0 (take l.number l.lists)
