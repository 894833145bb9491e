use Rattle.saturation.specs.Members.{clauses_of}
use Rattle.saturation.proofs.Passing.{FollowSoFar}
use Rattle.saturation.proofs.inferring.add_marked.Given as goal

abbrev pub invariant-loop-at : goal.invariant-loop-at
invariant-loop-at g l = FollowSoFar l.at l.signature (clauses_of l.list) l.last.clause.now l.last.number l.into l.from l.initial.members l.members
