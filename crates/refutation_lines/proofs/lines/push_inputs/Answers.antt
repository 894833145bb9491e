use Rattle.std.proofs.Common.{◌++◌}
use Rattle.given_parts.specs.Chosen.{chosen}
use Rattle.given_parts.proofs.ChosenFacts.{chosen_step, chosen_end}
use Rattle.refutation_lines.specs.Lines.{input_lines}
use Rattle.refutation_lines.proofs.lines.push_inputs.Goals as goal

pub loop-number-preserved : goal.loop-number-preserved
loop-number-preserved c =
    chosen_step (input_lines c.args.plan.now) c.args.printed.now c.args.inputs.now c.loop-number.number c.index-inputs-number.result c.loop-number.lines c.push_input_if.new.lines (c.args.lines.now ++ chosen (input_lines c.args.plan.now) c.args.printed.now c.args.inputs.now) c.requires c.loop-number-test.true c.index-inputs-number.is c.loop-number.invariant c.in_ok-push_input_if.ensures

pub returns : goal.returns
returns c = chosen_end (input_lines c.args.plan.now) c.args.printed.now c.args.inputs.now c.loop-number.number c.loop-number.lines (c.args.lines.now ++ chosen (input_lines c.args.plan.now) c.args.printed.now c.args.inputs.now) c.loop-number-test.false c.loop-number.invariant
