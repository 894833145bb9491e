use Rattle.std.proofs.Common.{◌≡◌, ◌++◌, reverse, length}
use Rattle.unify_terms.proofs.reversal.reversed.Given as goal

abbrev pub invariant-loop-last : goal.invariant-loop-last
invariant-loop-last g l = l.list ++ reverse l.left ≡ reverse l.fn.items

abbrev pub decreases-loop-last : goal.decreases-loop-last
decreases-loop-last g l = length l.left
