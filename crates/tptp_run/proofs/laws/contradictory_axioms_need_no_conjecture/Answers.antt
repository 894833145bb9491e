use Rattle.tptp_run.proofs.AxiomsAlone.{ends_spares}
use Rattle.tptp_run.proofs.laws.contradictory_axioms_need_no_conjecture.Goals as goal

pub returns : goal.returns
returns c = ends_spares
