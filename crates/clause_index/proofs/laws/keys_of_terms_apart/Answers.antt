use Rattle.clause_index.proofs.KeyFacts.{keys_moved}
use Rattle.clause_index.proofs.laws.keys_of_terms_apart.Goals as goal

pub returns : goal.returns
returns c = keys_moved
