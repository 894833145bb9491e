use Rattle.std.proofs.Common.{◌≡◌, take, true}
use Rattle.std.specs.List.{list_all}
use Rattle.fof_terms.specs.Standing.{is_listed}
use Rattle.function_choices.proofs.order.are_all_among.Given as goal

abbrev pub invariant-loop-variable : goal.invariant-loop-variable
invariant-loop-variable l = list_all (is_listed l.variables) (take l.variable-index l.needed) ≡ true
