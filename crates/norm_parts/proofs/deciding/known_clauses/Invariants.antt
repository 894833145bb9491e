use Rattle.norm_parts.specs.code.Known.{AreKnown}
use Rattle.norm_parts.proofs.deciding.known_clauses.Given as goal

abbrev pub invariant-loop-at : goal.invariant-loop-at
invariant-loop-at l = AreKnown l.signature l.parents l.known
