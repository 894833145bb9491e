use Rattle.std.proofs.Common.{take}
use Rattle.clause_learning.specs.Refutations.{HasSame}
use Rattle.chain_proofs.specs.Known.{AreKept}
use Rattle.chain_proofs.proofs.known.Known.of.Given as goal

abbrev pub invariant-loop-lit : goal.invariant-loop-lit
invariant-loop-lit l = record { kept : AreKept l.known; same : HasSame (take l.lit-index l.lits) l.known.lits }
