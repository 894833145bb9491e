use Rattle.std.proofs.Common.{◌≡◌, take}
use Rattle.rule_steps.specs.code.ParamodulationSearch.{sites_from}
use Rattle.rule_steps.proofs.sites.sites_of.Given as goal

abbrev pub invariant-loop-at : goal.invariant-loop-at
invariant-loop-at l = l.sites ≡ sites_from 0 (take l.at l.clauses)
