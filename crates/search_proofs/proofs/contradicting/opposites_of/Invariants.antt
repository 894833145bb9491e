use Rattle.std.proofs.Common.{take}
use Rattle.std.specs.List.{AllZip}
use Rattle.search_proofs.specs.code.Contradictions.{IsOpposite}
use Rattle.search_proofs.proofs.contradicting.opposites_of.Given as goal

abbrev pub invariant-loop-lit : goal.invariant-loop-lit
invariant-loop-lit l = AllZip (IsOpposite l.members) (take l.lit-index l.lits) l.places
