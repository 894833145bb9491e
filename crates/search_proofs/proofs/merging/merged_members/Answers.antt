use Rattle.search_proofs.specs.code.Repeats.{IsMerged}
use Rattle.search_proofs.proofs.Contradicted.{zip_done, zip_more}
use Rattle.search_proofs.proofs.merging.merged_members.Goals as goal

pub loop-member-preserved : goal.loop-member-preserved
loop-member-preserved c =
    zip_more IsMerged c.args.members.now c.loop-member.member-index c.member-item.result c.loop-member.made c.push.new.self c.in_ok-merged_member.field-0 c.loop-member-test.true c.member-item.is c.loop-member.invariant
    c.in_ok-merged_member.ensures c.in_ok-push.ensures.ok

pub returns : goal.returns
returns c = zip_done IsMerged c.args.members.now c.loop-member.member-index c.loop-member.made c.loop-member-test.false c.loop-member.invariant
