use Rattle.std.proofs.Common.{◌≤◌, length, arith, sym, ◌∙◌}
use Rattle.std.proofs.lemmas.List.{drop_all}
use Rattle.derivation_items.specs.Typings.{function_typing}
use Rattle.derivation_items.proofs.TypingFacts.{one_declared, all_declared}
use Rattle.derivation_items.proofs.typings.push_functions.Goals as goal

pub loop-number-preserved : goal.loop-number-preserved
loop-number-preserved c =
    one_declared (function_typing c.args.sig.now) c.args.sig.now.symbols c.loop-number.number c.in-Some.symbol.now c.in_ok-typing.typing c.loop-number.items c.push_typing.new.items (sym c.in-Some.ensures) c.in_ok-typing.ensures c.in_ok-push_typing.ensures
    ∙ c.loop-number.invariant

pub returns : goal.returns
returns c =
    let past : length c.args.sig.now.symbols ≤ c.loop-number.number = omega (arith, c.loop-number-test.false, c.symbol_count-number-end.ensures.value) in
    sym (all_declared (function_typing c.args.sig.now) c.args.sig.now.symbols c.loop-number.number c.loop-number.items (drop_all c.loop-number.number c.args.sig.now.symbols past)) ∙ c.loop-number.invariant
