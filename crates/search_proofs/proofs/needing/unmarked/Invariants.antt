use Rattle.search_proofs.specs.code.Marks.{IsUnmarked}
use Rattle.search_proofs.proofs.needing.unmarked.Given as goal

abbrev pub invariant-loop : goal.invariant-loop
invariant-loop l = IsUnmarked l.counter l.marks
