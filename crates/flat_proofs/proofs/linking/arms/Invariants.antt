use Rattle.std.proofs.Common.{◌≡◌, ◌+◌, ◌++◌, reverse, length}
use Rattle.flat_proofs.specs.code.Moving.{link_arms}
use Rattle.flat_proofs.proofs.linking.arms.Given as goal

abbrev pub invariant-loop-part : goal.invariant-loop-part
invariant-loop-part l = record {
  made : l.made ++ link_arms l.kind l.to l.number (reverse l.left) ≡ link_arms l.kind l.to 0 l.fn.parts;
  count : l.number + length l.left ≡ length l.fn.parts;
}

abbrev pub decreases-loop-part : goal.decreases-loop-part
decreases-loop-part l = length l.left
