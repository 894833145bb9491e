use Rattle.std.proofs.Common.{drop}
use Rattle.step_clauses.proofs.InputFacts.{MadeSoFar}
use Rattle.step_clauses.proofs.input.clausal_of_norms.Given as goal

abbrev pub invariant-loop-norm : goal.invariant-loop-norm
invariant-loop-norm l = MadeSoFar l.next l.norms (drop l.norm-index l.norms) l.made
