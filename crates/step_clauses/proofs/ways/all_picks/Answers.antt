use Rattle.step_clauses.proofs.ChosenFacts.{picks_more}
use Rattle.step_clauses.proofs.ways.all_picks.Goals as goal

pub loop-number-preserved : goal.loop-number-preserved
loop-number-preserved c = picks_more c.args.lists.now c.loop-number.number c.index-lists-number.result c.as_slice.result.now c.loop-number.made c.push_picks.new.made c.loop-number-test.true c.index-lists-number.is c.as_slice.ensures c.loop-number.invariant c.in_ok-push_picks.ensures
