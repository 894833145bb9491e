use Rattle.std.proofs.Common.{drop}
use Rattle.clause_form.proofs.RoomFacts.{Segmented}
use Rattle.clause_form.proofs.beside.segments.Given as goal

abbrev pub invariant-loop-number : goal.invariant-loop-number
invariant-loop-number l = Segmented l.clauses l.total l.before (drop l.number l.clauses) l.lits
