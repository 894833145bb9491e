use Rattle.std.proofs.Common.{take}
use Rattle.superpose.specs.code.Noted.{IsNoted, LitInstancesStay}
use Rattle.superpose.proofs.noting.note_lits.Given as goal

abbrev pub invariant-loop-lit : goal.invariant-loop-lit
invariant-loop-lit l = IsNoted l.count l.fn.noted l.noted (LitInstancesStay l.images (take l.lit-index l.lits))
