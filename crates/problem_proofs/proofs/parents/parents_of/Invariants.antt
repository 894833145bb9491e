use Rattle.std.proofs.Common.{◌≡◌, map, take}
use Rattle.problem_proofs.specs.Posed.{parent_of}
use Rattle.problem_proofs.proofs.parents.parents_of.Given as goal

abbrev pub invariant-loop-entry : goal.invariant-loop-entry
invariant-loop-entry l = l.parents ≡ map parent_of (take l.entry-index l.given)
