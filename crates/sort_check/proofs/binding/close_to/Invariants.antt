use Rattle.std.proofs.Common.{length}
use Rattle.sort_check.proofs.Closings.{Closing}
use Rattle.sort_check.proofs.binding.close_to.Given as goal

abbrev pub invariant-binders : goal.invariant-binders
invariant-binders l = Closing l.quant l.outer l.initial.scope l.scope l.fn.body l.form

abbrev pub decreases-binders : goal.decreases-binders
decreases-binders l = length l.scope.variables
