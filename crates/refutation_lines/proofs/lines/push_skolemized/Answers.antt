use Rattle.std.proofs.Common.{◌++◌, ◌∙◌, ap, sym, Some}
use Rattle.std.proofs.lemmas.Option.{slice_get-get_or}
use Rattle.given_parts.specs.Chosen.{chosen}
use Rattle.given_parts.proofs.ChosenFacts.{chosen_step, chosen_end}
use Rattle.refutation_lines.specs.Lines.{skolem_lines}
use Rattle.refutation_lines.proofs.lines.push_skolemized.Goals as goal

pub loop-number-preserved : goal.loop-number-preserved
loop-number-preserved c =
    chosen_step (skolem_lines c.args.firsts.now) c.args.used.now c.args.parts.now c.loop-number.number c.index-parts-number.result c.loop-number.lines c.push_part_if.new.lines (c.args.lines.now ++ chosen (skolem_lines c.args.firsts.now) c.args.used.now c.args.parts.now) c.requires.count c.loop-number-test.true c.index-parts-number.is c.loop-number.invariant c.in_ok-push_part_if.ensures

pub returns : goal.returns
returns c = chosen_end (skolem_lines c.args.firsts.now) c.args.used.now c.args.parts.now c.loop-number.number c.loop-number.lines (c.args.lines.now ++ chosen (skolem_lines c.args.firsts.now) c.args.used.now c.args.parts.now) c.loop-number-test.false c.loop-number.invariant

pub push_part_if-requires : goal.push_part_if-requires
push_part_if-requires c = c.requires.roomy c.loop-number.number c.index-parts-number.result (slice_get-get_or c.args.parts.now c.loop-number.number c.index-parts-number.result c.loop-number-test.true ∙ ap Some (sym c.index-parts-number.is))
