use Rattle.std.proofs.Common.{◌≡◌, length}
use Rattle.chain_proofs.specs.code.Steps.{wrapped}
use Rattle.chain_proofs.proofs.finishing.wrapped.Given as goal

abbrev pub invariant-loop-step : goal.invariant-loop-step
invariant-loop-step l = wrapped l.left l.made ≡ wrapped l.fn.steps l.fn.part

abbrev pub decreases-loop-step : goal.decreases-loop-step
decreases-loop-step l = length l.left
