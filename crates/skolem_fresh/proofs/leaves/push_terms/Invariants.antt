use Rattle.std.proofs.Common.{◌≡◌, ◌++◌, take, map}
use Rattle.skolem_fresh.specs.code.Leaves.{leaf}
use Rattle.skolem_fresh.proofs.leaves.push_terms.Given as goal

abbrev pub invariant-loop-term : goal.invariant-loop-term
invariant-loop-term l = l.leaves ≡ l.fn.leaves ++ map (leaf l.depth) (take l.term-index l.terms)
