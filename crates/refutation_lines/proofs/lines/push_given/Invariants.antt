use Rattle.std.proofs.Common.{◌≡◌, ◌++◌, drop}
use Rattle.given_parts.specs.Chosen.{chosen_from, chosen}
use Rattle.refutation_lines.specs.Lines.{given_lines}
use Rattle.refutation_lines.proofs.lines.push_given.Given as goal

abbrev pub invariant-loop-number : goal.invariant-loop-number
invariant-loop-number l = l.lines ++ chosen_from l.number given_lines (drop l.number l.used) (drop l.number l.given) ≡ l.fn.lines ++ chosen given_lines l.used l.given
