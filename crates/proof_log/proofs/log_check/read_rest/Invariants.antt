use Rattle.std.proofs.Common.{length}
use Rattle.proof_log.proofs.Steps.{KeptRest}
use Rattle.proof_log.proofs.log_check.read_rest.Given as goal

abbrev pub invariant-rest : goal.invariant-rest
invariant-rest l = KeptRest 4000 l.initial.log l.log

abbrev pub decreases-rest : goal.decreases-rest
decreases-rest l = length l.log.rest
