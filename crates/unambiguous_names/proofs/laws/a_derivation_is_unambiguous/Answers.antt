use Rattle.unambiguous_names.proofs.Whole.{derivation_is}
use Rattle.unambiguous_names.proofs.laws.a_derivation_is_unambiguous.Goals as goal

pub returns : goal.returns
returns c = λ v given limit d u found few. derivation_is v given limit d u found few
