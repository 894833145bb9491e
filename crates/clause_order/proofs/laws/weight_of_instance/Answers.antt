use Rattle.clause_order.proofs.WeightLaws.{instance_weighs}
use Rattle.clause_order.proofs.laws.weight_of_instance.Goals as goal

pub returns : goal.returns
returns c = instance_weighs
