use Rattle.std.proofs.Common.{◌≡◌, take, map}
use Rattle.sat_step.specs.code.Numbers.{read_learned}
use Rattle.sat_step.proofs.reading.read_log.Given as goal

abbrev pub invariant-loop-step : goal.invariant-loop-step
invariant-loop-step l = l.read ≡ map (read_learned l.atoms) (take l.step-index l.log)
