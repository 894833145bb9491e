use Rattle.std.proofs.Common.{◌≡◌, ◌^◌, ◌-◌, min, take, sum, map}
use Rattle.clause_form.specs.Sizes.{clause_count_of, product}
use Rattle.clause_form.proofs.sizes.+clause_count.Given as goal

abbrev pub invariant-count_of_all-loop-member : goal.invariant-count_of_all-loop-member
invariant-count_of_all-loop-member l = l.total ≡ min (sum (map clause_count_of (take l.member-index l.members))) (2 ^ 128 - 1)

abbrev pub invariant-count_of_choices-loop-member : goal.invariant-count_of_choices-loop-member
invariant-count_of_choices-loop-member l = l.total ≡ min (product (map clause_count_of (take l.member-index l.members))) (2 ^ 128 - 1)
