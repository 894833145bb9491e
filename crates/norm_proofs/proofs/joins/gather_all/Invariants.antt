use Rattle.std.proofs.Common.{◌≡◌, take, flat_map, length}
use Rattle.clause_form.specs.Norm.{members_of}
use Rattle.norm_proofs.specs.code.Joining.{GatherTo}
use Rattle.norm_proofs.proofs.joins.gather_all.Given as goal

abbrev pub invariant-loop-number : goal.invariant-loop-number
invariant-loop-number l = (l.start ≡ length (flat_map (members_of l.kind) (take l.number l.whole))) × GatherTo l.kind l.flat (take l.number l.whole) l.made
