use Rattle.std.proofs.Common.{take}
use Rattle.norm_parts.specs.code.Known.{ShowLines}
use Rattle.norm_parts.proofs.proving.each_proved.Given as goal

abbrev pub invariant-loop-at : goal.invariant-loop-at
invariant-loop-at l = ShowLines l.signature l.parents l.proofs (take l.at l.members)
