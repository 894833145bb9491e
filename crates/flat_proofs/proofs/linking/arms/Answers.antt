use Rattle.std.proofs.Common.{◌∙◌, ◌∷◌, [], ap, arith, reverse, length, length-append}
use Rattle.std.proofs.lemmas.List.{reverse-reverse, length-reverse}
use Rattle.flat_proofs.specs.code.Moving.{link_arms}
use Rattle.flat_proofs.proofs.Arms.{link_next, link_end}
use Rattle.flat_proofs.proofs.MemberFacts.{carried}
use Rattle.flat_proofs.proofs.linking.arms.Goals as goal

pub loop-part-init : goal.loop-part-init
loop-part-init c = record {
  made = carried c.new-made.result [] _ _ c.new-made.ensures (ap (link_arms c.args.kind c.args.to.now 0) (ap reverse c.in_ok-left.ensures ∙ reverse-reverse c.args.parts));
  count = let same = ap length c.in_ok-left.ensures ∙ length-reverse c.args.parts in omega arith;
}

pub overflow_add-number : goal.overflow_add-number
overflow_add-number c = omega (arith, c.loop-part.invariant.count, c.requires)

pub loop-part-preserved : goal.loop-part-preserved
loop-part-preserved c = record {
  made =
      carried _ _ _ _ c.in_ok-push.ensures.ok
      (link_next c.args.kind c.args.to.now c.loop-part.number c.loop-part.made _ c.loop-part.left c.pop.new.self c.in-Some.part c.in_ok-new.field-0 c.into_inner.result c.in-Some.ensures c.in_ok-new.ensures (c.into_inner.ensures ∙ c.in_ok-arm.ensures)
      c.loop-part.invariant.made);
  count = let more = ap length c.in-Some.ensures ∙ length-append c.pop.new.self (c.in-Some.part ∷ []) in omega (arith, c.loop-part.invariant.count);
}

pub returns : goal.returns
returns c = link_end c.args.kind c.args.to.now c.loop-part.number c.loop-part.made _ c.loop-part.left c.in_default.ensures.0 c.loop-part.invariant.made
