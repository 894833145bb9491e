use Rattle.std.proofs.Common.{◌++◌}
use Rattle.given_parts.specs.Chosen.{chosen}
use Rattle.given_parts.proofs.ChosenFacts.{chosen_step, chosen_end}
use Rattle.refutation_lines.specs.Lines.{inferred_lines}
use Rattle.refutation_lines.proofs.lines.push_inferred.Goals as goal

pub loop-number-preserved : goal.loop-number-preserved
loop-number-preserved c =
    chosen_step (inferred_lines c.args.plan.now) c.args.needed.now c.args.members.now c.loop-number.number c.index-members-number.result c.loop-number.lines c.push_member_if.new.lines (c.args.lines.now ++ chosen (inferred_lines c.args.plan.now) c.args.needed.now c.args.members.now) c.requires c.loop-number-test.true c.index-members-number.is c.loop-number.invariant c.in_ok-push_member_if.ensures

pub returns : goal.returns
returns c = chosen_end (inferred_lines c.args.plan.now) c.args.needed.now c.args.members.now c.loop-number.number c.loop-number.lines (c.args.lines.now ++ chosen (inferred_lines c.args.plan.now) c.args.needed.now c.args.members.now) c.loop-number-test.false c.loop-number.invariant
