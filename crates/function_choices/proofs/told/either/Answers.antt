use Rattle.function_choices.proofs.MatchedFacts.{either_more}
use Rattle.function_choices.proofs.told.either.Goals as goal

pub loop-place-preserved : goal.loop-place-preserved
loop-place-preserved c =
    either_more c.args.first.now c.args.second.now c.loop-place.made c.push.new.self _ c.loop-place.place c.max-place-end.result c.told_of.result c.told_of-in-loop-place.result c.first_told.result c.loop-place-test.true c.max-place-end.ensures c.told_of.ensures
    c.told_of-in-loop-place.ensures c.first_told.ensures c.in_ok-push.ensures.ok c.loop-place.invariant
