use Rattle.std.proofs.Common.{take}
use Rattle.kernel.specs.Entries.{Admits}
use Rattle.proof_log.proofs.checking.admit_all.Given as goal

abbrev pub invariant-loop-number : goal.invariant-loop-number
invariant-loop-number l = Admits l.initial.theory (take l.number l.entries) l.theory
