use Rattle.step_clauses.proofs.ChosenFacts.{join_more}
use Rattle.step_clauses.proofs.choosing.join_each.Goals as goal

pub loop-choice-preserved : goal.loop-choice-preserved
loop-choice-preserved c =
    join_more c.args.left.now c.args.right.now c.loop-choice.choice-index c.choice-item.result c.as_slice.result.now c.loop-choice.joined c.push_joined.new.joined c.loop-choice-test.true c.choice-item.is c.as_slice.ensures c.loop-choice.invariant c.in_ok-push_joined.ensures
