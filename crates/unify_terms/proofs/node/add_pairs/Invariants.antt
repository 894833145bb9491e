use Rattle.std.proofs.Common.{take}
use Rattle.unify_terms.specs.code.Graph.{AddsPairs}
use Rattle.unify_terms.proofs.node.add_pairs.Given as goal

abbrev pub invariant-loop-pair : goal.invariant-loop-pair
invariant-loop-pair l = AddsPairs (take l.pair-index l.pairs) l.fn.nodes l.fn.numbers l.nodes l.numbers
