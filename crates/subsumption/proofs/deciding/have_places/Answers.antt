use Rattle.std.proofs.Common.{◌≡◌, ◌∙◌, arith, length}
use Rattle.subsumption.proofs.MatchedFacts.{ok_as}
use Rattle.subsumption.proofs.DecidedFacts.{decided}
use Rattle.subsumption.proofs.deciding.have_places.Goals as goal

pub returns : goal.returns
returns c =
    let size : c.loop.counter ≡ length c.args.task.now.clause.now.lits = omega (arith, c.loop-test.false, c.len-end.ensures) in
    ok_as c.place_from.result (decided c.args.task.now c.in_ok-bindings.bindings c.place_from.new.bindings c.deref_mut.result.now c.place_from.new.taken _ c.loop.counter c.in_ok-bindings.ensures.images (c.deref_mut.ensures.value ∙ c.loop.invariant) size) c.place_from.ensures
