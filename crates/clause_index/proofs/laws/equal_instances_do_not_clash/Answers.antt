use Rattle.clause_index.proofs.KeyFacts.{equal_no_clash}
use Rattle.clause_index.proofs.laws.equal_instances_do_not_clash.Goals as goal

pub returns : goal.returns
returns c = equal_no_clash
