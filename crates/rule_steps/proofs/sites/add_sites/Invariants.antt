use Rattle.std.proofs.Common.{◌≡◌, ◌++◌, take}
use Rattle.rule_steps.specs.code.ParamodulationSearch.{sites_of_lits}
use Rattle.rule_steps.proofs.sites.add_sites.Given as goal

abbrev pub invariant-loop-at : goal.invariant-loop-at
invariant-loop-at l = l.sites ≡ l.initial.sites ++ sites_of_lits l.clause 0 (take l.at l.lits)
