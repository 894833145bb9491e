use Rattle.std.proofs.Common.{take}
use Rattle.norm_parts.specs.ByParts.{AreShownParts}
use Rattle.norm_parts.proofs.deciding.decided.Given as goal

abbrev pub invariant-loop-at : goal.invariant-loop-at
invariant-loop-at l = AreShownParts l.signature l.parents (take l.at l.members) l.justs
