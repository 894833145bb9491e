use Rattle.std.proofs.Common.{◌≡◌, length, drop}
use Rattle.unify_terms.specs.code.Partition.{relabelled}
use Rattle.unify_terms.proofs.partition.relabel.Given as goal

abbrev pub invariant-loop-member : goal.invariant-loop-member
invariant-loop-member l = (length l.labels.items ≡ length l.fn.labels.items) × (relabelled l.labels.items l.to (drop l.member-index l.members) ≡ relabelled l.fn.labels.items l.to l.members)
