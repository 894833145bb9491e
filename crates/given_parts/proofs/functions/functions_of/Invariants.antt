use Rattle.std.proofs.Common.{◌≡◌, drop}
use Rattle.given_parts.specs.Chosen.{chosen_from}
use Rattle.given_parts.specs.Functions.{functions_from, used_existentials}
use Rattle.given_parts.proofs.PartFacts.{own, with_left}
use Rattle.given_parts.proofs.functions.functions_of.Given as goal

abbrev pub invariant-loop-at : goal.invariant-loop-at
invariant-loop-at l = with_left l.prefix l.functions (chosen_from l.at own (drop l.at l.used) (drop l.at l.parts)) ≡ functions_from l.prefix 1 (used_existentials l.used l.parts)
