use Rattle.subsumption.proofs.SubsumesFacts.{empty_subsumed}
use Rattle.subsumption.proofs.laws.subsumed_by_empty.Goals as goal

pub returns : goal.returns
returns c = empty_subsumed
