use Rattle.std.proofs.Common.{◌≡◌, ◌++◌, take}
use Rattle.rule_steps.specs.code.ParamodulationSearch.{readings_of_lits}
use Rattle.rule_steps.proofs.sites.add_readings.Given as goal

abbrev pub invariant-loop-at : goal.invariant-loop-at
invariant-loop-at l = l.readings ≡ l.initial.readings ++ readings_of_lits l.clause 0 (take l.at l.lits)
