use Rattle.std.proofs.Common.{ℕ, ◌≡◌, length}
use Rattle.proof_check.specs.Uses.{is_marked}
use Rattle.proof_check.proofs.marks.widen.Given as goal

abbrev pub invariant-loop : goal.invariant-loop
invariant-loop l = record {
  count : length l.marks ≡ l.counter;
  same : (symbol : ℕ) → is_marked l.marks symbol ≡ is_marked l.fn.marks symbol;
}
