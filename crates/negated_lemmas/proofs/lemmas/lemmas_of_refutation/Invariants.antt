use Rattle.std.proofs.Common.{take}
use Rattle.negated_lemmas.proofs.InTurn.{BegunWith}
use Rattle.negated_lemmas.proofs.lemmas.lemmas_of_refutation.Given as goal

abbrev pub invariant-loop-proof : goal.invariant-loop-proof
invariant-loop-proof l = BegunWith l.line l.first (take l.proof-index l.proofs) l.entries
