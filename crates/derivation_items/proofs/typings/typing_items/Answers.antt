use Rattle.std.proofs.Common.{map, drop}
use Rattle.derivation_items.specs.Typings.{function_typing, sort_typing}
use Rattle.derivation_items.proofs.TypingFacts.{both_declared}
use Rattle.derivation_items.proofs.typings.typing_items.Goals as goal

pub returns : goal.returns
returns c =
    both_declared c.new-items.result c.push_sorts.new.items c.push_functions.new.items (map sort_typing (drop 1 c.args.sig.now.sorts)) (map (function_typing c.args.sig.now) (drop c.args.first c.args.sig.now.symbols)) c.new-items.ensures
    c.in_ok-push_sorts.ensures c.in_ok-push_functions.ensures
