use Rattle.derivation_check.proofs.OneCheck.{one_check}
use Rattle.derivation_check.proofs.laws.a_check_has_one_report.Goals as goal

pub returns : goal.returns
returns c = λ asked t d w verified other report log again more short all first second direct. one_check asked t d w short all verified other report log again more first second direct
