use Rattle.derivation_follows.proofs.Proofs.{printed_case}
use Rattle.derivation_follows.proofs.laws.a_printed_derivation_makes_a_good_case.Goals as goal

pub returns : goal.returns
returns c = λ v given limit d few less names found file items within steps asked t checked formulas read word. printed_case v given limit d few less names found file items within steps asked t checked formulas read word
