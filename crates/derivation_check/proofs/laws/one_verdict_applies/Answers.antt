use Rattle.derivation_check.proofs.OneVerdict.{one_verdict}
use Rattle.derivation_check.proofs.laws.one_verdict_applies.Goals as goal

pub returns : goal.returns
returns c = one_verdict
