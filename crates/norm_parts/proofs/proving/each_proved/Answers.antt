use Rattle.clause_rules.proofs.Firsts.{there_at}
use Rattle.norm_parts.proofs.Showing.{part_at, lines_next, lines_last}
use Rattle.norm_parts.proofs.proving.each_proved.Goals as goal

pub part_proved-requires-clause-part : goal.part_proved-requires-clause-part
part_proved-requires-clause-part c = c.requires.members c.loop-at.at c.index-members-at.result (there_at c.args.members.now c.loop-at.at c.index-members-at.result c.loop-at-test.true c.index-members-at.is)

pub part_proved-requires-clause-shown : goal.part_proved-requires-clause-shown
part_proved-requires-clause-shown c =
    part_at c.args.signature.now c.args.parents.now c.args.members.now c.args.justs.now c.loop-at.at c.index-members-at.result c.index-justs-at.result c.requires.shown c.loop-at-test.true c.index-members-at.is c.index-justs-at.is

pub loop-at-preserved : goal.loop-at-preserved
loop-at-preserved c =
    lines_next c.args.signature.now c.args.parents.now c.args.members.now c.loop-at.at c.index-members-at.result c.loop-at.proofs c.push.new.self c.in_ok-proof.proof c.into_inner.result c.loop-at-test.true c.index-members-at.is c.loop-at.invariant c.in_ok-proof.ensures
    c.into_inner.ensures c.in_ok-push.ensures.ok

pub returns : goal.returns
returns c = lines_last c.args.signature.now c.args.parents.now c.args.members.now c.loop-at.at c.loop-at.proofs c.loop-at-test.false c.loop-at.invariant
