use Rattle.std.proofs.Common.{◌≡◌, true, take}
use Rattle.std.specs.List.{list_all}
use Rattle.tstp_graph.specs.Order.{is_done}
use Rattle.tstp_graph.specs.code.Flags.{flag_at}
use Rattle.tstp_graph.proofs.queue.first_missing.Given as goal

abbrev pub invariant-loop-place : goal.invariant-loop-place
invariant-loop-place l = list_all (is_done (flag_at l.taken)) (take l.place l.parents) ≡ true
