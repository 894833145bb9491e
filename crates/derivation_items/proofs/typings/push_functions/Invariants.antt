use Rattle.std.proofs.Common.{◌≡◌, drop}
use Rattle.derivation_items.specs.Typings.{function_typing}
use Rattle.derivation_items.proofs.TypingFacts.{with_left}
use Rattle.derivation_items.proofs.typings.push_functions.Given as goal

abbrev pub invariant-loop-number : goal.invariant-loop-number
invariant-loop-number l = with_left (function_typing l.sig) l.items (drop l.number l.sig.symbols) ≡ with_left (function_typing l.sig) l.fn.items (drop l.first l.sig.symbols)
