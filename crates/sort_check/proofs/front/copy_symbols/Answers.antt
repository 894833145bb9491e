use Rattle.std.proofs.Common.{◌<◌, sym, rules, arith}
use Rattle.sort_check.proofs.Fronting.{symbol_added, symbol_declared}
use Rattle.sort_check.proofs.front.copy_symbols.Goals as goal

pub add-requires-clause-declared : goal.add-requires-clause-declared
add-requires-clause-declared c =
    let before : c.loop-number.number < c.args.extent.symbols = first_of (omega arith, search rules, grind arith) in
    symbol_declared c.args.signature.now c.args.extent c.loop-number.copy c.loop-number.number c.loop-number.invariant c.in-Some.symbol.now c.in_ok-symbol.symbol (sym c.in-Some.ensures) c.in_ok-symbol.ensures before c.requires.within c.requires.whole

pub loop-number-preserved : goal.loop-number-preserved
loop-number-preserved c =
    symbol_added c.args.signature.now c.args.extent c.loop-number.copy c.loop-number.number c.loop-number.invariant c.add.new.signature c.in-Some.symbol.now c.in_ok-symbol.symbol (sym c.in-Some.ensures) c.in_ok-symbol.ensures c.in_ok-add.ensures
