use Rattle.std.proofs.Common.{length}
use Rattle.norm_parts.proofs.candidates.push_under.Given as goal

abbrev pub decreases-loop-path : goal.decreases-loop-path
decreases-loop-path l = length l.left
