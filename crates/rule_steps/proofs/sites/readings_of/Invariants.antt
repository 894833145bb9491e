use Rattle.std.proofs.Common.{◌≡◌, take}
use Rattle.rule_steps.specs.code.ParamodulationSearch.{readings_from}
use Rattle.rule_steps.proofs.sites.readings_of.Given as goal

abbrev pub invariant-loop-at : goal.invariant-loop-at
invariant-loop-at l = l.readings ≡ readings_from 0 (take l.at l.clauses)
