use Rattle.std.proofs.Common.{◌≡◌, take, true}
use Rattle.std.specs.List.{list_all}
use Rattle.fof_terms.specs.Scope.{scope_sorts}
use Rattle.unify_terms.specs.Goals.{pair_sorted}
use Rattle.unify_terms.proofs.sorting.all_fit.Given as goal

abbrev pub invariant-loop-pair : goal.invariant-loop-pair
invariant-loop-pair l = list_all (pair_sorted l.signature (scope_sorts l.reach)) (take l.pair-index l.pairs) ≡ true
