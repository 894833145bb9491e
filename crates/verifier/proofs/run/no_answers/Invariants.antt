use Rattle.std.proofs.Common.{◌≡◌, length}
use Rattle.verifier.proofs.run.no_answers.Given as goal

abbrev pub invariant-loop : goal.invariant-loop
invariant-loop l = length l.answers ≡ l.counter
