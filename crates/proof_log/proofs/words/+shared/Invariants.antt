use Rattle.std.proofs.Common.{length}
use Rattle.proof_log.proofs.words.+shared.Given as goal

abbrev pub decreases-shared : goal.decreases-shared
decreases-shared l = length l.name.now
