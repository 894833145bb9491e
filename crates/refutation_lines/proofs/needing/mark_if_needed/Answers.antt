use Rattle.std.proofs.Common.{refl}
use Rattle.saturation.specs.declared.member.Origin.{Origin}
use Rattle.refutation_lines.specs.Needs.{is_input}
use Rattle.refutation_lines.proofs.NeedFacts.{marks_unless, marks_if}
use Rattle.refutation_lines.proofs.needing.mark_if_needed.Goals as goal

pub returns-then-not-is_needed : goal.returns-then-not-is_needed
returns-then-not-is_needed c = marks_unless Origin is_input c.args.member.now.origin c.args.is_needed c.args.marks.now c.args.marks.now c.if-not-is_needed.true refl

pub returns : goal.returns
returns c = marks_if Origin is_input c.args.member.now.origin c.args.is_needed c.args.marks.now c.mark_input.new.marks c.if-not-is_needed.false c.mark_input.ensures
