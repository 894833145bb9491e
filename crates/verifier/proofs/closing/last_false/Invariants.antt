use Rattle.verifier.proofs.Latest.{IsLastBefore}
use Rattle.verifier.proofs.closing.last_false.Given as goal

abbrev pub invariant-loop-place : goal.invariant-loop-place
invariant-loop-place l = IsLastBefore l.forms l.numbers l.place l.last
