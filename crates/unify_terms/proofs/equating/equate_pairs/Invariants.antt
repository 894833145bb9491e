use Rattle.std.proofs.Common.{take}
use Rattle.unify_terms.specs.Unifiers.{Unifies}
use Rattle.unify_terms.specs.code.Binding.{AreBound, Adds}
use Rattle.unify_terms.proofs.equating.equate_pairs.Given as goal

abbrev pub invariant-loop-pair : goal.invariant-loop-pair
invariant-loop-pair l = record {
  are : AreBound l.signature l.scope.sorts l.scope.rigid l.bound.items;
  adds : Adds l.fn.bound.items l.bound.items (λ images. Unifies images (take l.pair-index l.pairs));
}
