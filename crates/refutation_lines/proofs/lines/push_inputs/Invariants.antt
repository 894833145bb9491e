use Rattle.std.proofs.Common.{◌≡◌, ◌++◌, drop}
use Rattle.given_parts.specs.Chosen.{chosen_from, chosen}
use Rattle.refutation_lines.specs.Lines.{input_lines}
use Rattle.refutation_lines.proofs.lines.push_inputs.Given as goal

abbrev pub invariant-loop-number : goal.invariant-loop-number
invariant-loop-number l = l.lines ++ chosen_from l.number (input_lines l.plan) (drop l.number l.printed) (drop l.number l.inputs) ≡ l.fn.lines ++ chosen (input_lines l.plan) l.printed l.inputs
