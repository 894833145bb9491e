use Rattle.std.proofs.Common.{take}
use Rattle.sat_entries.specs.code.Naming.{AreMarked}
use Rattle.sat_entries.proofs.naming.named_inputs.Given as goal

abbrev pub invariant-loop-learned : goal.invariant-loop-learned
invariant-loop-learned l = AreMarked l.count (take l.learned-index l.log) l.marks
