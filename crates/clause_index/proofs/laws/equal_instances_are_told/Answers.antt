use Rattle.std.specs.Prelude.{refl}
use Rattle.clause_index.specs.Entries.{entry_of}
use Rattle.clause_index.proofs.KeyFacts.{equal_no_clash}
use Rattle.clause_index.proofs.laws.equal_instances_are_told.Goals as goal

pub returns : goal.returns
returns c = λ entries positive t u places place s r told added equal.
    told.complete (entry_of place positive u) added (refl, equal_no_clash s r u t equal)
