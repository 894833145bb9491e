use Rattle.std.proofs.Common.{◌≡◌, take}
use Rattle.step_clauses.specs.code.Chosen.{joins}
use Rattle.step_clauses.proofs.choosing.join_each.Given as goal

abbrev pub invariant-loop-choice : goal.invariant-loop-choice
invariant-loop-choice l = l.joined ≡ joins (take l.choice-index l.left) l.right
