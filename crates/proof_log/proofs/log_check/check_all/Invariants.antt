use Rattle.std.proofs.Common.{length}
use Rattle.proof_log.proofs.OneCheck.{HasAdmitted}
use Rattle.proof_log.proofs.log_check.check_all.Given as goal

abbrev pub invariant-entries : goal.invariant-entries
invariant-entries l = HasAdmitted 4000 l.initial.theory l.text l.log l.theory l.count

abbrev pub decreases-entries : goal.decreases-entries
decreases-entries l = length l.log.rest
