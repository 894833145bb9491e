use Rattle.derivation_follows.proofs.Cases.{found_case}
use Rattle.derivation_follows.proofs.laws.a_found_derivation_makes_a_good_case.Goals as goal

pub returns : goal.returns
returns c = λ v given limit d few less found types graph is w steps room asked t checked formulas is_graph forms word. found_case v given limit d few less found types graph is w steps room asked t checked formulas is_graph forms word
