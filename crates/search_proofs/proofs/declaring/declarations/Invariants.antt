use Rattle.search_proofs.proofs.DeclaredFacts.{IsDeclaredTo}
use Rattle.search_proofs.proofs.declaring.declarations.Given as goal

abbrev pub invariant-loop-id : goal.invariant-loop-id
invariant-loop-id l = IsDeclaredTo l.signature.symbols l.known l.id l.entries
