use Rattle.std.proofs.Common.{refl, sym, ◌∙◌}
use Rattle.norm_parts.proofs.InstanceParts.{reach_cases, reach_arm}
use Rattle.norm_parts.proofs.instances.by_literals.Goals as goal

pub returns-in-Some : goal.returns-in-Some
returns-in-Some c =
    reach_cases c.args.shown c.args.goal.now c.in_ok-copy-in-Some.field-0 c.get-2.result.now c.in-Or.literals c.as_slice.result.now c.in-Some.arms c.part.inside.inner.value c.in_ok-cases-in-Some.field-0 c.get-2.ensures c.in-Or.is c.as_slice.ensures c.in_ok-copy-in-Some.ensures (let is = c.part.view_is in cc)
    (rw c.in-Some.is at c.in_ok-arms-in-Or.ensures) c.in_ok-cases-in-Some.ensures

pub returns-in-Some-2 : goal.returns-in-Some-2
returns-in-Some-2 c =
    reach_arm c.args.shown c.args.goal.now c.get-in_default.result.now c.into_inner.result c.in-Some-2.arm c.args.shown.part c.in_ok-cut_under-in-Some-2.field-0 c.get-in_default.ensures (c.into_inner.ensures ∙ sym c.get-in_default.ensures) refl
    (rw c.in-Some-2.is at c.in_ok-arm-in_default.ensures) c.in_ok-cut_under-in-Some-2.ensures
