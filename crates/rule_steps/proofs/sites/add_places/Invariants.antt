use Rattle.std.proofs.Common.{◌≡◌, ◌++◌, take}
use Rattle.rule_steps.specs.code.ParamodulationSearch.{sites_of_places}
use Rattle.rule_steps.proofs.sites.add_places.Given as goal

abbrev pub invariant-loop-place : goal.invariant-loop-place
invariant-loop-place l = l.sites ≡ l.initial.sites ++ sites_of_places l.clause l.lit (take l.place-index l.place-items)
