use Rattle.std.proofs.Common.{◌≡◌, length}
use Rattle.clause_learning.specs.code.Trails.{clauses_of}
use Rattle.clause_learning.specs.code.Held.{IsStoppedAt}
use Rattle.clause_learning.proofs.narrowing.narrow.Given as goal

abbrev pub invariant-atoms : goal.invariant-atoms
invariant-atoms l = record {
  stopped : IsStoppedAt (clauses_of l.clauses) l.from l.marks l.trail l.stop;
  many : length l.marks.marks ≡ length l.initial.marks.marks;
}

abbrev pub decreases-atoms : goal.decreases-atoms
decreases-atoms l = length l.plan.order
