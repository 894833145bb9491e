use Rattle.proof_log.proofs.OneTheory.{one_admitted}
use Rattle.proof_log.proofs.laws.entries_make_one_theory.Goals as goal

pub returns : goal.returns
returns c = one_admitted
