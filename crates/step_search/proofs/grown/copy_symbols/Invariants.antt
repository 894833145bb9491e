use Rattle.std.proofs.Common.{◌≡◌, take}
use Rattle.step_search.proofs.Growing.{with_symbols}
use Rattle.step_search.proofs.grown.copy_symbols.Given as goal

abbrev pub invariant-loop-number : goal.invariant-loop-number
invariant-loop-number l = l.copy ≡ with_symbols l.signature (take l.number l.signature.symbols)
