use Rattle.std.proofs.Common.{arith}
use Rattle.saturation.proofs.Turns.{greatest_within}
use Rattle.saturation.proofs.weighing.heaviest_allowed.Goals as goal

pub overflow_mul-result : goal.overflow_mul-result
overflow_mul-result c = let most = greatest_within c.args.inputs.now 100000000 c.requires in let is = c.greatest_weight.ensures in omega arith

pub overflow_add-result : goal.overflow_add-result
overflow_add-result c = let most = greatest_within c.args.inputs.now 100000000 c.requires in let is = c.greatest_weight.ensures in omega arith
