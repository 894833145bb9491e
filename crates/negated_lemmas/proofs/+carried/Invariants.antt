use Rattle.std.proofs.Common.{take}
use Rattle.negated_lemmas.specs.code.Carried.{CarryEach}
use Rattle.negated_lemmas.proofs.+carried.Given as goal

abbrev pub invariant-carrying::carried_each-loop-part : goal.invariant-carrying::carried_each-loop-part
invariant-carrying::carried_each-loop-part l = CarryEach l.first l.depth (take l.part-index l.parts) l.made
