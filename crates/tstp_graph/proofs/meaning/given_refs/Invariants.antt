use Rattle.std.proofs.Common.{◌≡◌, map, take}
use Rattle.tstp_graph.specs.declared.shape.Ref.TheVariants.{Given}
use Rattle.tstp_graph.proofs.meaning.given_refs.Given as goal

abbrev pub invariant-loop-number : goal.invariant-loop-number
invariant-loop-number l = l.refs ≡ map Given (take l.number-index l.numbers)
