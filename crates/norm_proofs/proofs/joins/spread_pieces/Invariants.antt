use Rattle.std.proofs.Common.{◌≡◌}
use Rattle.norm_proofs.specs.code.Joining.{numbered, spread_tree}
use Rattle.norm_proofs.proofs.joins.spread_pieces.Given as goal

abbrev pub invariant-loop-place : goal.invariant-loop-place
invariant-loop-place l = l.made ≡ numbered (spread_tree l.kind l.whole l.number l.inner) 0 l.place
