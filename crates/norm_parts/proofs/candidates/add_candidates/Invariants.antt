use Rattle.std.proofs.Common.{length}
use Rattle.norm_parts.specs.code.Candidates.{AreAdded}
use Rattle.norm_parts.proofs.candidates.add_candidates.Given as goal

abbrev pub invariant-loop-path : goal.invariant-loop-path
invariant-loop-path l = AreAdded l.signature l.source l.form l.initial.candidates l.candidates

abbrev pub decreases-loop-path : goal.decreases-loop-path
decreases-loop-path l = length l.left
