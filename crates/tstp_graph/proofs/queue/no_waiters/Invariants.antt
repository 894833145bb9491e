use Rattle.std.proofs.Common.{◌≡◌, ◌≤◌, ◌-◌, ℕ, [], length, vec_len}
use Rattle.tstp_graph.specs.code.Queue.{waiters_of}
use Rattle.tstp_graph.proofs.queue.no_waiters.Given as goal

abbrev pub invariant-waiting : goal.invariant-waiting
invariant-waiting l = record {
  none : (line : ℕ) → waiters_of l.waiting.items line ≡ [];
  len : length l.waiting.items ≤ l.count;
}

abbrev pub decreases-waiting : goal.decreases-waiting
decreases-waiting l = l.count - vec_len l.waiting
