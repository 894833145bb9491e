use Rattle.tptp_run.proofs.FormulaCounts.{run_counts}
use Rattle.tptp_run.proofs.counts.a_parse_counts_formulas.Goals as goal

pub returns : goal.returns
returns c = run_counts
