use Rattle.derivation_follows.proofs.Whole.{found_good}
use Rattle.derivation_follows.proofs.laws.a_found_derivation_is_good.Goals as goal

pub returns : goal.returns
returns c = λ v given limit d few less found types graph is w steps searched. found_good v given limit d found few less types graph is w steps searched
