use Rattle.input_proofs.proofs.PendingFacts.{SoFar}
use Rattle.input_proofs.proofs.pending.push_pending.Given as goal

abbrev pub invariant-loop-at : goal.invariant-loop-at
invariant-loop-at l = SoFar l.form l.fact l.wanted l.at l.fn.pending l.pending
