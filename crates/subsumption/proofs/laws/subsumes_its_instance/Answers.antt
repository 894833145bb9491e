use Rattle.subsumption.proofs.SubsumesFacts.{instance_subsumed}
use Rattle.subsumption.proofs.laws.subsumes_its_instance.Goals as goal

pub returns : goal.returns
returns c = instance_subsumed
