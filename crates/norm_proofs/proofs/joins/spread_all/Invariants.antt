use Rattle.std.proofs.Common.{take, flat_map}
use Rattle.clause_form.specs.Norm.{members_of}
use Rattle.norm_proofs.specs.code.Joining.{SpreadTo}
use Rattle.norm_proofs.proofs.joins.spread_all.Given as goal

abbrev pub invariant-loop-number : goal.invariant-loop-number
invariant-loop-number l = SpreadTo l.kind l.whole (flat_map (members_of l.kind) (take l.number l.whole)) l.made
