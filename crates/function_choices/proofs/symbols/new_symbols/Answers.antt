use Rattle.std.proofs.Common.{get_or}
use Rattle.std.proofs.lemmas.List.{take_all}
use Rattle.std.proofs.lemmas.Option.{slice_get-get_or}
use Rattle.function_choices.proofs.Offered.{none_found, one_found, all_found}
use Rattle.function_choices.proofs.symbols.new_symbols.Goals as goal

pub loop-symbol-init : goal.loop-symbol-init
loop-symbol-init c = none_found c.args.theory.now c.args.line.now c.new-all.result c.symbols_of.new.symbols c.as_slice-listed.result.now c.new-all.ensures c.as_slice-listed.ensures c.in_ok-symbols_of.ensures.ok c.new-found.result c.new-found.ensures

pub loop-symbol-preserved : goal.loop-symbol-preserved
loop-symbol-preserved c =
    one_found c.args.theory.now c.args.line.now c.new-all.result c.symbols_of.new.symbols c.as_slice-listed.result.now c.new-all.ensures c.as_slice-listed.ensures c.in_ok-symbols_of.ensures.ok c.loop-symbol.symbol-index (get_or c.as_slice-listed.result.now c.loop-symbol.symbol-index 0)
    c.loop-symbol-test.true (slice_get-get_or c.as_slice-listed.result.now c.loop-symbol.symbol-index 0 c.loop-symbol-test.true) c.loop-symbol.found c.add_new.new.found c.loop-symbol.invariant c.in_ok-add_new.ensures

pub returns : goal.returns
returns c =
    all_found c.args.theory.now c.args.line.now c.new-all.result c.symbols_of.new.symbols c.as_slice-listed.result.now c.new-all.ensures c.as_slice-listed.ensures c.in_ok-symbols_of.ensures.ok c.loop-symbol.symbol-index c.loop-symbol.found
    (take_all c.loop-symbol.symbol-index c.as_slice-listed.result.now c.loop-symbol-test.false) c.loop-symbol.invariant
