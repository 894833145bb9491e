use Rattle.std.proofs.Common.{◌≡◌, ◌^◌, ◌-◌, min, take, sum, map}
use Rattle.clause_form.specs.Sizes.{clause_count_of}
use Rattle.step_clauses.proofs.input.count_clauses.Given as goal

abbrev pub invariant-loop-norm : goal.invariant-loop-norm
invariant-loop-norm l = l.total ≡ min (sum (map clause_count_of (take l.norm-index l.norms))) (2 ^ 128 - 1)
