use Rattle.std.proofs.Common.{◌≡◌, take}
use Rattle.subsumption.specs.Mask.{mask}
use Rattle.subsumption.proofs.masks.mask_of.Given as goal

abbrev pub invariant-loop-lit : goal.invariant-loop-lit
invariant-loop-lit l = l.bits ≡ mask (take l.lit-index l.clause.lits)
