use Rattle.std.proofs.Common.{[], ◌∷◌}
use Rattle.saturation.specs.declared.member.Member.{Member}
use Rattle.saturation.specs.declared.member.Origin.{Origin}
use Rattle.refutation_lines.specs.Needs.{is_input, prints_input}
use Rattle.refutation_lines.proofs.NeedFacts.{marked_first, marked_step, marked_all, marks_are}
use Rattle.refutation_lines.proofs.needing.printed_inputs.Goals as goal

pub loop-at-init : goal.loop-at-init
loop-at-init c = marked_first Member Origin (λ j m. m.origin ∷ []) is_input c.args.count c.args.needed.now c.args.members.now c.in_ok-marks.marks c.in_ok-marks.ensures

pub loop-at-preserved : goal.loop-at-preserved
loop-at-preserved c =
    marked_step Member Origin (λ j m. m.origin ∷ []) is_input c.args.count c.args.needed.now c.args.members.now c.loop-at.at c.index-members-at.result c.loop-at.marks c.mark_if_needed.new.marks c.requires c.loop-at-test.true c.index-members-at.is c.mark_if_needed.ensures c.loop-at.invariant

pub returns : goal.returns
returns c =
    marks_are (prints_input c.args.needed.now c.args.members.now) c.args.count c.loop-at.marks (marked_all Member Origin (λ j m. m.origin ∷ []) is_input c.args.count c.args.needed.now c.args.members.now c.loop-at.at c.loop-at.marks c.loop-at-test.false c.loop-at.invariant)
