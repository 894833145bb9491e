use Rattle.std.proofs.Common.{◌≡◌, ◌++◌, drop}
use Rattle.given_parts.specs.Chosen.{chosen_from, chosen}
use Rattle.refutation_lines.specs.Lines.{inferred_lines}
use Rattle.refutation_lines.proofs.lines.push_inferred.Given as goal

abbrev pub invariant-loop-number : goal.invariant-loop-number
invariant-loop-number l = l.lines ++ chosen_from l.number (inferred_lines l.plan) (drop l.number l.needed) (drop l.number l.members) ≡ l.fn.lines ++ chosen (inferred_lines l.plan) l.needed l.members
