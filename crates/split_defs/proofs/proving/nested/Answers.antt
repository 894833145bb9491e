use Rattle.std.proofs.Common.{ap, sym, ◌∙◌, List}
use Rattle.split_defs.specs.declared.stages.Stage.{Stage}
use Rattle.split_defs.specs.code.SplitProof.{nest_tree}
use Rattle.split_defs.proofs.ArmLoops.{nest_last}
use Rattle.split_defs.proofs.proving.nested.Goals as goal

pub loop-stage-preserved : goal.loop-stage-preserved
loop-stage-preserved c =
    ap (nest_tree c.pop.new.self) c.in_ok-part.ensures ∙ sym (nest_last c.pop.new.self c.in-Some.stage c.loop-stage.part) ∙ sym (ap (λ (ss : List Stage). nest_tree ss c.loop-stage.part) c.in-Some.ensures) ∙ c.loop-stage.invariant
