use Rattle.std.proofs.Common.{◌≡◌, ◌+◌, ◌^◌, ◌-◌, min, take, sum, map}
use Rattle.clause_form.specs.Sizes.{norm_size_of}
use Rattle.clause_form.proofs.sizes.+norm_size.Given as goal

abbrev pub invariant-size_with_members-loop-member : goal.invariant-size_with_members-loop-member
invariant-size_with_members-loop-member l = l.total ≡ min (1 + sum (map norm_size_of (take l.member-index l.members))) (2 ^ 128 - 1)
