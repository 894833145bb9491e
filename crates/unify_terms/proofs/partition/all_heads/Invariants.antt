use Rattle.std.proofs.Common.{◌≡◌, map, take}
use Rattle.unify_terms.specs.code.Classes.{class_of}
use Rattle.unify_terms.proofs.partition.all_heads.Given as goal

abbrev pub invariant-loop-label : goal.invariant-loop-label
invariant-loop-label l = l.classes.items ≡ map (class_of l.partition.heads.items) (take l.label-index l.partition.labels.items)
