use Rattle.std.proofs.Common.{◌≡◌, length}
use Rattle.clause_learning.specs.code.Trails.{clauses_of}
use Rattle.clause_learning.proofs.Stating.{IsWalking}
use Rattle.clause_learning.proofs.analysis.walk.Given as goal

abbrev pub invariant-walk : goal.invariant-walk
invariant-walk l = record {
  walking : IsWalking (clauses_of l.clauses) l.from l.marks l.initial.trail l.trail;
  marks : length l.marks.marks ≡ length l.initial.marks.marks;
}

abbrev pub decreases-walk : goal.decreases-walk
decreases-walk l = length l.trail.steps
