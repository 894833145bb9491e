use Rattle.std.proofs.Common.{◌≡◌, length, None}
use Rattle.clause_learning.specs.code.Trails.{clauses_of}
use Rattle.clause_learning.specs.code.States.{IsPropagated}
use Rattle.clause_learning.proofs.propagation.sweep.Given as goal

abbrev pub invariant-loop-number : goal.invariant-loop-number
invariant-loop-number l = record {
  many : l.many ≡ length (clauses_of l.clauses);
  on : IsPropagated (clauses_of l.clauses) l.initial.trail l.trail None;
}
