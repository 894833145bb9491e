use Rattle.std.proofs.Common.{◌^◌, ◌-◌}
use Rattle.clause_form.specs.Sizes.{clause_count_of}
use Rattle.clause_form.proofs.Saturation.{count_more}
use Rattle.clause_form.proofs.sizes.+clause_count.Goals as goal

pub count_of_choices-loop-member-preserved : goal.count_of_choices-loop-member-preserved
count_of_choices-loop-member-preserved t c =
    count_more clause_count_of c.args.members.now c.loop-member.member-index c.member-item.result c.loop-member.total c.clause_count.result (2 ^ 128 - 1) c.saturating_mul-total.result
    c.loop-member-test.true c.member-item.is c.loop-member.invariant c.clause_count.ensures c.saturating_mul-total.ensures
