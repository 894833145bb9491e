use Rattle.std.proofs.Common.{length}
use Rattle.flat_proofs.proofs.halving.+halved.Given as goal

abbrev pub decreases-halved : goal.decreases-halved
decreases-halved l = length l.members.now
