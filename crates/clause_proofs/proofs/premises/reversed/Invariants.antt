use Rattle.std.proofs.Common.{◌≡◌, ◌++◌, reverse, length}
use Rattle.clause_proofs.proofs.premises.reversed.Given as goal

abbrev pub invariant-loop-last : goal.invariant-loop-last
invariant-loop-last l = l.list ++ reverse l.left ≡ reverse l.fn.terms

abbrev pub decreases-loop-last : goal.decreases-loop-last
decreases-loop-last l = length l.left
