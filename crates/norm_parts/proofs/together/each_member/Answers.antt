use Rattle.std.proofs.Common.{arith}
use Rattle.fof_terms.specs.Scope.{scope_sorts}
use Rattle.norm_parts.proofs.TogetherParts.{member_room, members_next, members_last}
use Rattle.norm_parts.proofs.together.each_member.Goals as goal

pub one_member-requires-clause-room : goal.one_member-requires-clause-room
one_member-requires-clause-room c =
    omega (arith, c.requires.room, member_room c.args.signature.now (scope_sorts c.args.scope.now) c.args.members.now c.loop-at.at c.index-members-at.result c.loop-at-test.true c.index-members-at.is c.requires.members)

pub loop-at-preserved : goal.loop-at-preserved
loop-at-preserved c =
    members_next c.args.signature.now c.args.parents.now (scope_sorts c.args.scope.now) c.args.shared.now c.args.members.now c.loop-at.at c.index-members-at.result c.loop-at.proofs c.push.new.self c.in-Some.proof c.into_inner.result c.loop-at-test.true c.index-members-at.is
    c.loop-at.invariant (rw c.in-Some.is at c.in_ok-proof.ensures) c.into_inner.ensures c.in_ok-push-in-Some.ensures.ok

pub returns : goal.returns
returns c = members_last c.args.signature.now c.args.parents.now (scope_sorts c.args.scope.now) c.args.shared.now c.args.members.now c.loop-at.at c.loop-at.proofs c.loop-at-test.false c.loop-at.invariant
