use Rattle.std.proofs.Common.{take}
use Rattle.search_proofs.specs.code.Repeats.{AreOnce}
use Rattle.search_proofs.proofs.merging.each_once.Given as goal

abbrev pub invariant-loop-lit : goal.invariant-loop-lit
invariant-loop-lit l = AreOnce (take l.lit-index l.lits) l.made
