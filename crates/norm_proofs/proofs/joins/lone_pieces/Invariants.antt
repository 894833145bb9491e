use Rattle.std.proofs.Common.{◌≡◌}
use Rattle.norm_proofs.specs.code.Joining.{numbered, lone_tree}
use Rattle.norm_proofs.proofs.joins.lone_pieces.Given as goal

abbrev pub invariant-loop-place : goal.invariant-loop-place
invariant-loop-place l = l.made ≡ numbered (lone_tree l.kind l.flat) l.start l.place
