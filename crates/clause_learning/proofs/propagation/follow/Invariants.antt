use Rattle.std.proofs.Common.{None}
use Rattle.clause_learning.specs.code.Trails.{clauses_of}
use Rattle.clause_learning.specs.code.States.{IsPropagated}
use Rattle.clause_learning.proofs.propagation.follow.Given as goal

abbrev pub invariant-loop-at : goal.invariant-loop-at
invariant-loop-at l = IsPropagated (clauses_of l.clauses) l.initial.trail l.trail None
