use Rattle.std.proofs.Common.{◌∙◌}
use Rattle.flat_proofs.proofs.MemberFacts.{closed_more, closed_end}
use Rattle.flat_proofs.proofs.members.closed_all.Goals as goal

pub loop-member-preserved : goal.loop-member-preserved
loop-member-preserved c =
    closed_more c.args.members.now c.loop-member.member-index c.member-item.result c.loop-member.made c.push.new.self c.into_inner.result c.loop-member-test.true c.member-item.is c.in_ok-push.ensures.ok (c.into_inner.ensures ∙ c.in_ok-closed.ensures) c.loop-member.invariant

pub returns : goal.returns
returns c = closed_end c.args.members.now c.loop-member.member-index c.loop-member.made c.loop-member-test.false c.loop-member.invariant
