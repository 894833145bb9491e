use Rattle.std.proofs.Common.{◌≡◌, map, take}
use Rattle.fi_model.specs.Interpretations.{size}
use Rattle.fi_model.proofs.tables.sizes.Given as goal

abbrev pub invariant-loop-sort : goal.invariant-loop-sort
invariant-loop-sort l = l.sizes ≡ map (size l.domains) (take l.sort-index l.sorts)
