use Rattle.std.proofs.Common.{◌≡◌, length}
use Rattle.proof_log.specs.Reading.{HasRead}
use Rattle.proof_log.proofs.reader.read_all.Given as goal

abbrev pub invariant-entries : goal.invariant-entries
invariant-entries l = HasRead 4000 l.found l.log × (l.log.text ≡ l.bytes)

abbrev pub decreases-entries : goal.decreases-entries
decreases-entries l = length l.log.rest
