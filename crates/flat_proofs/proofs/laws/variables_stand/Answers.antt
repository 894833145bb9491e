use Rattle.flat_form.proofs.OwnNorms.{own_of_norm}
use Rattle.flat_proofs.proofs.Occurrence.{all_in_order}
use Rattle.flat_proofs.proofs.laws.variables_stand.Goals as goal

pub returns : goal.returns
returns c = λ a e k lt. all_in_order a (own_of_norm a e) k lt
