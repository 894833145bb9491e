use Rattle.std.proofs.Common.{arith, ap, ◌+◌}
use Rattle.derive_kit.proofs.Built.{ok_map}
use Rattle.norm_proofs.proofs.NarrowingFacts.{under_leads, member_leads}
use Rattle.norm_proofs.proofs.narrowing.+narrow.Goals as goal

pub returns-in_ok-push-in-Some-clause-leads : goal.returns-in_ok-push-in-Some-clause-leads
returns-in_ok-push-in-Some-clause-leads t c =
    ok_map c.narrow.result (λ made l.
    under_leads c.args.more c.args.sorts c.push.new.self c.in-All.sort c.args.body.now c.in-All.inner c.get.result.now c.args.part made.more made.form made.part c.in-All.is c.get.ensures c.in_ok-push-in-Some.ensures.ok l) c.narrow.ensures.leads

pub returns-in_ok-part-in-Some-2-clause-leads : goal.returns-in_ok-part-in-Some-2-clause-leads
returns-in_ok-part-in-Some-2-clause-leads t c =
    ok_map c.narrow-in-Some-2.result (λ made l.
    member_leads c.args.more (c.args.more + c.len-in-Some-2.result) c.args.sorts c.as_slice.result.now c.in-And.members c.as_slice-members.result.now c.in-Some-2.field-0.member c.args.body.now c.index-members-member.result c.args.part c.in_ok-part-in-Some-2.part made.more made.form made.part
    c.in-And.is c.as_slice-members.ensures (rw c.in-Some-2.is at c.in_ok-member-in-And.ensures) c.index-members-member.is c.as_slice.ensures (omega (arith, c.if-len-gt1000.false, c.len.ensures)) (ap (λ n. c.args.more + n) c.len-in-Some-2.ensures) c.in_ok-part-in-Some-2.ensures l)
    c.narrow-in-Some-2.ensures.leads
