use Rattle.std.proofs.Common.{◌≡◌, length}
use Rattle.split_defs.specs.code.SplitProof.{nest_tree}
use Rattle.split_defs.proofs.proving.nested.Given as goal

abbrev pub invariant-loop-stage : goal.invariant-loop-stage
invariant-loop-stage l = nest_tree l.left l.part ≡ nest_tree l.fn.stages l.fn.core

abbrev pub decreases-loop-stage : goal.decreases-loop-stage
decreases-loop-stage l = length l.left
