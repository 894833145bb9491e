use Rattle.std.proofs.Common.{◌≡◌, ◌≤◌, ◌-◌, ℕ, false, length, vec_len}
use Rattle.tstp_graph.specs.code.Flags.{flag_at}
use Rattle.tstp_graph.proofs.order.no_flags.Given as goal

abbrev pub invariant-flags : goal.invariant-flags
invariant-flags l = record {
  none : (number : ℕ) → flag_at l.flags.items number ≡ false;
  len : length l.flags.items ≤ l.count;
}

abbrev pub decreases-flags : goal.decreases-flags
decreases-flags l = l.count - vec_len l.flags
