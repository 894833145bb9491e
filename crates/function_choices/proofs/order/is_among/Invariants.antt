use Rattle.std.proofs.Common.{◌≡◌, take, false}
use Rattle.fof_terms.specs.Standing.{is_listed}
use Rattle.function_choices.proofs.order.is_among.Given as goal

abbrev pub invariant-loop-other : goal.invariant-loop-other
invariant-loop-other l = is_listed (take l.other-index l.numbers) l.number ≡ false
