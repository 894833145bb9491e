use Rattle.std.proofs.Common.{◌≡◌, take}
use Rattle.split_defs.specs.code.SplitProof.{stage_clauses}
use Rattle.split_defs.proofs.proving.clauses_of.Given as goal

abbrev pub invariant-loop-stage : goal.invariant-loop-stage
invariant-loop-stage l = l.clauses ≡ stage_clauses (take l.stage-index l.stages)
