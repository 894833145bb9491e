use Rattle.std.proofs.Common.{◌≡◌, ◌++◌, reverse, length, map}
use Rattle.std.specs.Option.{option_map}
use Rattle.input_proofs.specs.code.Pending.{cited}
use Rattle.input_proofs.proofs.pending.cite_all.Given as goal

abbrev pub invariant-loop-next : goal.invariant-loop-next
invariant-loop-next l = l.proofs ++ map (option_map (cited l.first)) (reverse l.left) ≡ map (option_map (cited l.first)) l.fn.pending

abbrev pub decreases-loop-next : goal.decreases-loop-next
decreases-loop-next l = length l.left
