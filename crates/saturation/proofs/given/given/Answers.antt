use Rattle.std.proofs.Common.{◌∙◌, ◌++◌, ◌∷◌, [], ap}
use Rattle.saturation.specs.declared.member.Member.{Member}
use Rattle.saturation.proofs.Givens.{given_more}
use Rattle.saturation.proofs.given.given.Goals as goal

pub loop-at-preserved : goal.loop-at-preserved
loop-at-preserved c = given_more c.args.inputs.now c.loop-at.members c.push.new.self c.loop-at.at c.index-inputs-at.result c.in_ok-number.field-0 c.index-inputs-at.result c.loop-at.invariant c.loop-at-test.true c.index-inputs-at.is c.in_ok-number.ensures
    (c.in_ok-push.ensures.ok ∙ ap (λ (m : Member). c.loop-at.members ++ m ∷ []) c.in_ok-given.ensures)
