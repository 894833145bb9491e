use Rattle.sat_step.proofs.Lawful.{refuted_never}
use Rattle.sat_step.proofs.laws.refuted_clauses_have_no_valuation.Goals as goal

pub returns : goal.returns
returns c = refuted_never
