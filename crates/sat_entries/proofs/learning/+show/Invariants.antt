use Rattle.std.proofs.Common.{length}
use Rattle.sat_entries.proofs.learning.+show.Given as goal

abbrev pub decreases-show : goal.decreases-show
decreases-show l = length l.from
