use Rattle.derivation_order.proofs.Cited.{differ}
use Rattle.derivation_order.proofs.laws.linked_names_differ.Goals as goal

pub returns : goal.returns
returns c = λ given lines linked. differ given lines linked
