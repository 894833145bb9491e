use Rattle.skolem_fresh.proofs.SkolemSteps.{used_stops}
use Rattle.skolem_fresh.proofs.skolem.are_fresh.Goals as goal

pub returns-then-uses : goal.returns-then-uses
returns-then-uses c =
    (λ f. cc, λ h. absurd (used_stops c.args.theory.now c.args.uses.now c.loop-function.function-index c.function-item.result c.uses.result c.loop-function-test.true c.function-item.is c.if-uses.true c.uses.ensures h))
