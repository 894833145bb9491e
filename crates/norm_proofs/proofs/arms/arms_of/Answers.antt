use Rattle.norm_proofs.proofs.Places.{at_index}
use Rattle.norm_proofs.specs.code.Recursion.{IsStep}
use Rattle.norm_proofs.proofs.RecursionFacts.{part_more}
use Rattle.norm_proofs.proofs.Remaining.{next_left, none_left}
use Rattle.norm_proofs.proofs.arms.arms_of.Goals.{in-Some+in_ok-part+in_ok-arm+in_ok-push, in_default}
use Rattle.norm_proofs.proofs.arms.arms_of.Goals as goal

pub loop-number-preserved : goal.loop-number-preserved
loop-number-preserved c = elim c.match-pop.branch [
  | in-Some+in_ok-part+in_ok-arm+in_ok-push w ↦
      let at = at_index c.args.forms.now c.loop-number.number w.index-forms-number.result c.loop-number-test.true w.index-forms-number.is in
      let next = next_left (λ k a p. IsStep c.args.way.positive c.args.way.forth a p) c.args.forms.now c.loop-number.number w.index-forms-number.result c.loop-number.left c.pop.new.self w.in-Some.part c.loop-number-test.true w.index-forms-number.is w.in-Some.ensures c.loop-number.invariant.0 in (
        next.1,
        rw (w.made-is, w.in_ok-push.ensures.ok, w.into_inner.ensures)
            (part_more c.args.way.conjunction c.args.way.positive c.args.way.forth c.args.forms.now c.args.norms.now c.loop-number.made c.loop-number.number w.index-forms-number.result w.in_ok-part.part w.in_ok-arm.arm c.loop-number-test.true at w.index-forms-number.is c.requires.norms
            w.in_ok-arm.ensures (rw w.in_ok-part.ensures next.0) c.loop-number.invariant.1),
      )
  | in_default w ↦ absurd (none_left (λ k a p. IsStep c.args.way.positive c.args.way.forth a p) c.args.forms.now c.loop-number.number c.loop-number.left c.loop-number-test.true (rw w.in_default.is at c.pop.ensures).0 c.loop-number.invariant.0)
]
