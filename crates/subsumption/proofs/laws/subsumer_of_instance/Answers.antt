use Rattle.subsumption.proofs.SubsumesFacts.{subsumes_instance}
use Rattle.subsumption.proofs.laws.subsumer_of_instance.Goals as goal

pub returns : goal.returns
returns c = subsumes_instance
