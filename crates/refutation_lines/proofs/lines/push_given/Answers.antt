use Rattle.std.proofs.Common.{◌++◌}
use Rattle.given_parts.specs.Chosen.{chosen}
use Rattle.given_parts.proofs.ChosenFacts.{chosen_step, chosen_end}
use Rattle.refutation_lines.specs.Lines.{given_lines}
use Rattle.refutation_lines.proofs.lines.push_given.Goals as goal

pub loop-number-preserved : goal.loop-number-preserved
loop-number-preserved c =
    chosen_step given_lines c.args.used.now c.args.given.now c.loop-number.number c.index-given-number.result c.loop-number.lines c.push_given_if.new.lines (c.args.lines.now ++ chosen given_lines c.args.used.now c.args.given.now) c.requires c.loop-number-test.true c.index-given-number.is c.loop-number.invariant c.in_ok-push_given_if.ensures

pub returns : goal.returns
returns c = chosen_end given_lines c.args.used.now c.args.given.now c.loop-number.number c.loop-number.lines (c.args.lines.now ++ chosen given_lines c.args.used.now c.args.given.now) c.loop-number-test.false c.loop-number.invariant
