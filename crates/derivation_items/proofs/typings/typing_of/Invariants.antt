use Rattle.std.proofs.Common.{◌≡◌, take, map}
use Rattle.derivation_items.specs.Typings.{written_sort}
use Rattle.derivation_items.proofs.typings.typing_of.Given as goal

abbrev pub invariant-loop-sort : goal.invariant-loop-sort
invariant-loop-sort l = l.args ≡ map (written_sort l.sig) (take l.sort-index l.symbol.args)
