use Rattle.std.proofs.Common.{take}
use Rattle.std.specs.List.{AllZip}
use Rattle.chain_proofs.proofs.Parting.{IsPart}
use Rattle.chain_proofs.proofs.refuting.refuted_by.Given as goal

abbrev pub invariant-loop-lit : goal.invariant-loop-lit
invariant-loop-lit l = AllZip (IsPart l.known.lits l.base l.count) l.parts (take l.lit-index l.lits)
