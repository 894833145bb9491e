use Rattle.printed_clauses.specs.Marks.{AreUnmarked}
use Rattle.printed_clauses.proofs.marking.unmarked.Given as goal

abbrev pub invariant-loop : goal.invariant-loop
invariant-loop l = AreUnmarked l.counter l.marks
