use Rattle.sort_check.specs.Namesakes.{Knows}
use Rattle.sort_check.specs.Sorting.{Extends}
use Rattle.sort_check.proofs.LineLoops.{TypesSoFar}
use Rattle.sort_check.proofs.denotation.take_types.Given as goal

abbrev pub invariant-loop-item : goal.invariant-loop-item
invariant-loop-item l = record {
  so_far : TypesSoFar l.items (record { vocabulary = l.initial.signature; names = l.initial.names }) l.item-index (record { vocabulary = l.signature; names = l.names });
  keeps : Extends l.initial.signature l.signature;
  knows : Knows l.namesakes l.signature.symbols;
}
