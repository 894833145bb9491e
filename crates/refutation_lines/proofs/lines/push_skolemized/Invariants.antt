use Rattle.std.proofs.Common.{◌≡◌, ◌++◌, drop}
use Rattle.given_parts.specs.Chosen.{chosen_from, chosen}
use Rattle.refutation_lines.specs.Lines.{skolem_lines}
use Rattle.refutation_lines.proofs.lines.push_skolemized.Given as goal

abbrev pub invariant-loop-number : goal.invariant-loop-number
invariant-loop-number l = l.lines ++ chosen_from l.number (skolem_lines l.firsts) (drop l.number l.used) (drop l.number l.parts) ≡ l.fn.lines ++ chosen (skolem_lines l.firsts) l.used l.parts
