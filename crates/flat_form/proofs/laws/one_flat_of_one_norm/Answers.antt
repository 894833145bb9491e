use Rattle.std.proofs.Common.{ap}
use Rattle.flat_form.specs.Flat.{flattened}
use Rattle.flat_form.proofs.laws.one_flat_of_one_norm.Goals as goal

pub returns : goal.returns
returns c = λ a b e. ap flattened e
