use Rattle.std.proofs.Common.{◌≡◌, length}
use Rattle.unify_terms.proofs.images.mark_all.Given as goal

abbrev pub invariant-loop-number : goal.invariant-loop-number
invariant-loop-number l = length l.needed.items ≡ length l.fn.needed.items
