use Rattle.std.proofs.Common.{take}
use Rattle.norm_parts.specs.code.Instances.{AreArms}
use Rattle.norm_parts.proofs.instances.arms_of.Given as goal

abbrev pub invariant-loop-at : goal.invariant-loop-at
invariant-loop-at l = AreArms l.goal (take l.at l.literals) l.arms
