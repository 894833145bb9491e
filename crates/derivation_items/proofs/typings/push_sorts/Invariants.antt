use Rattle.std.proofs.Common.{◌≡◌, drop}
use Rattle.derivation_items.specs.Typings.{sort_typing}
use Rattle.derivation_items.proofs.TypingFacts.{with_left}
use Rattle.derivation_items.proofs.typings.push_sorts.Given as goal

abbrev pub invariant-loop-number : goal.invariant-loop-number
invariant-loop-number l = with_left sort_typing l.items (drop l.number l.sig.sorts) ≡ with_left sort_typing l.fn.items (drop 1 l.sig.sorts)
