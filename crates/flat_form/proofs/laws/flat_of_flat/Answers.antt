use Rattle.flat_form.proofs.FlatLaws.{flat_again}
use Rattle.flat_form.proofs.laws.flat_of_flat.Goals as goal

pub returns : goal.returns
returns c = λ a. flat_again a
