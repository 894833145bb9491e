use Rattle.derivation_check.proofs.Written.{both_taken}
use Rattle.derivation_check.proofs.reporting.write_report.Goals as goal

pub returns-clause-ok : goal.returns-clause-ok
returns-clause-ok g c = both_taken c.write_end.result _ _ _ _ _ c.in_ok-write_lines.ensures.ok c.write_end.ensures.ok
