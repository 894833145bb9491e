use Rattle.std.proofs.Common.{refl}
use Rattle.norm_parts.proofs.InstanceParts.{arm_itself, arm_member}
use Rattle.norm_parts.proofs.instances.arm_of.Goals as goal

pub returns-then-equal : goal.returns-then-equal
returns-then-equal c = arm_itself c.args.goal.now c.args.literal.now c.in_ok-own.own (c.if-equal.ensures.0 refl) c.in_ok-own.ensures

pub returns-in_ok-or_i-in-Some : goal.returns-in_ok-or_i-in-Some
returns-in_ok-or_i-in-Some c =
    arm_member c.args.goal.now c.args.literal.now c.in-Or.members c.as_slice-members.result.now c.in_ok-all-in-Some.all c.in-Some.place c.in_ok-number-in-Some.field-0 c.in_ok-own.own c.in_ok-or_i-in-Some.field-0 c.in-Or.is c.as_slice-members.ensures
    c.in_ok-all-in-Some.ensures c.in-Some.ensures c.in_ok-number-in-Some.ensures c.in_ok-own.ensures c.in_ok-or_i-in-Some.ensures
