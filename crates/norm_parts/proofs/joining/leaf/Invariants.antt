use Rattle.std.proofs.Common.{◌≡◌, ◌-◌}
use Rattle.norm_proofs.specs.Numbering.{near}
use Rattle.norm_parts.specs.code.Gathering.{leaf_tree}
use Rattle.norm_parts.proofs.joining.leaf.Given as goal

abbrev pub invariant-loop-i : goal.invariant-loop-i
invariant-loop-i l = near 0 (l.depth - l.i) l.made ≡ leaf_tree l.depth l.number
