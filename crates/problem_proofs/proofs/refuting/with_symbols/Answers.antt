use Rattle.problem_proofs.proofs.GrowingFacts.{all_added, one_added, one_declared, room_for_one}
use Rattle.problem_proofs.proofs.refuting.with_symbols.Goals as goal

pub add-requires-clause-room : goal.add-requires-clause-room
add-requires-clause-room c = room_for_one c.args.sig.now c.loop-symbol.grown c.args.symbols.now c.loop-symbol.symbol-index c.loop-symbol-test.true c.loop-symbol.invariant c.requires.room

pub add-requires-clause-declared : goal.add-requires-clause-declared
add-requires-clause-declared c =
    one_declared c.args.sig.now c.loop-symbol.grown c.args.symbols.now c.loop-symbol.symbol-index c.loop-symbol-test.true c.loop-symbol.invariant c.symbol-item.result c.in_ok-symbol.symbol c.symbol-item.is c.in_ok-symbol.ensures c.requires.declared

pub loop-symbol-preserved : goal.loop-symbol-preserved
loop-symbol-preserved c =
    one_added c.args.sig.now c.loop-symbol.grown c.args.symbols.now c.loop-symbol.symbol-index c.loop-symbol-test.true c.loop-symbol.invariant c.add.new.sig c.symbol-item.result c.in_ok-symbol.symbol c.symbol-item.is c.in_ok-symbol.ensures c.in_ok-add.ensures

pub returns : goal.returns
returns c = all_added c.args.sig.now c.loop-symbol.grown c.args.symbols.now c.loop-symbol.symbol-index c.loop-symbol.invariant c.loop-symbol-test.false
