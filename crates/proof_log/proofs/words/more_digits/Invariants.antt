use Rattle.std.proofs.Common.{◌≡◌, length}
use Rattle.proof_log.specs.code.ReadWords as spec
use Rattle.proof_log.proofs.words.more_digits.Given as goal

abbrev pub invariant-digits : goal.invariant-digits
invariant-digits l = spec.more_digits l.most l.first l.fn.text ≡ spec.more_digits l.most l.number l.rest

abbrev pub decreases-digits : goal.decreases-digits
decreases-digits l = length l.rest
