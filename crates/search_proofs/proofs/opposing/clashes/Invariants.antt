use Rattle.std.proofs.Common.{take}
use Rattle.search_proofs.specs.code.Clashes.{AreArms}
use Rattle.search_proofs.proofs.opposing.clashes.Given as goal

abbrev pub invariant-loop-k : goal.invariant-loop-k
invariant-loop-k l = AreArms l.members l.numbers l.places (take l.k l.lits) l.arms
