use Rattle.std.proofs.Common.{◌≡◌, length}
use Rattle.proof_log.specs.code.ReadWords as spec
use Rattle.proof_log.proofs.words.begins.Given as goal

abbrev pub invariant-bytes : goal.invariant-bytes
invariant-bytes l = spec.begins l.fn.text l.fn.name ≡ spec.begins l.left l.wanted

abbrev pub decreases-bytes : goal.decreases-bytes
decreases-bytes l = length l.wanted
