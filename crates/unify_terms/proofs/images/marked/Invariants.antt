use Rattle.std.proofs.Common.{◌≡◌, length}
use Rattle.unify_terms.proofs.images.marked.Given as goal

abbrev pub invariant-loop-variable : goal.invariant-loop-variable
invariant-loop-variable l = length l.needed.items ≡ length l.nodes

abbrev pub invariant-loop-from_end : goal.invariant-loop-from_end
invariant-loop-from_end l = length l.needed.items ≡ length l.nodes
