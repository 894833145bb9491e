use Rattle.std.proofs.Common.{length}
use Rattle.chain_proofs.specs.Known.{AreKept}
use Rattle.chain_proofs.proofs.Walking.{IsWalked}
use Rattle.chain_proofs.proofs.stretching.take_steps.Given as goal

abbrev pub invariant-loop-number : goal.invariant-loop-number
invariant-loop-number l = record { kept : AreKept l.known; walked : IsWalked l.facts l.initial.left l.initial.known.lits l.known.lits l.left l.steps }

abbrev pub decreases-loop-number : goal.decreases-loop-number
decreases-loop-number l = length l.left
