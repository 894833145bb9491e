use Rattle.step_search.proofs.Growing.{one_added, one_declared, room_for_one}
use Rattle.step_search.proofs.grown.add_functions.Goals as goal

pub add-requires-clause-room : goal.add-requires-clause-room
add-requires-clause-room c = room_for_one c.args.grown.now c.loop-skolem.grown c.args.skolems.now c.loop-skolem.skolem-index c.loop-skolem-test.true c.loop-skolem.invariant c.requires.room

pub add-requires-clause-declared : goal.add-requires-clause-declared
add-requires-clause-declared c =
    one_declared c.args.grown.now c.loop-skolem.grown c.args.skolems.now c.loop-skolem.skolem-index c.loop-skolem-test.true c.loop-skolem.invariant c.skolem-item.result c.in_ok-symbol.symbol c.skolem-item.is c.in_ok-symbol.ensures c.requires.declared

pub loop-skolem-preserved : goal.loop-skolem-preserved
loop-skolem-preserved c =
    one_added c.args.grown.now c.loop-skolem.grown c.args.skolems.now c.loop-skolem.skolem-index c.loop-skolem-test.true c.loop-skolem.invariant c.add.new.signature c.skolem-item.result c.in_ok-symbol.symbol c.skolem-item.is c.in_ok-symbol.ensures c.in_ok-add.ensures
