use Rattle.std.proofs.Common.{◌≡◌, ◌^◌, ◌-◌, min, take, sum, map}
use Rattle.fof_terms.specs.Sizes.{form_size}
use Rattle.derivation_limits.proofs.variables.+bound_count.Given as goal

abbrev pub invariant-bound_in_all-loop-member : goal.invariant-bound_in_all-loop-member
invariant-bound_in_all-loop-member l = l.total ≡ min (sum (map (λ a. (form_size a).variables) (take l.member-index l.members))) (2 ^ 64 - 1)
