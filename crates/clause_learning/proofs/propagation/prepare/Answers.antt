use Rattle.clause_learning.specs.code.Trails.{clauses_of}
use Rattle.clause_learning.proofs.Stating.{propagated_none}
use Rattle.clause_learning.proofs.propagation.prepare.Goals as goal

pub returns-then-not-is_empty : goal.returns-then-not-is_empty
returns-then-not-is_empty c = propagated_none (clauses_of c.args.clauses.now) c.args.trail.now c.requires.trail
