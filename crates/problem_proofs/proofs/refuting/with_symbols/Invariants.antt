use Rattle.std.proofs.Common.{◌≡◌, ◌++◌, take}
use Rattle.step_search.proofs.Growing.{with_symbols}
use Rattle.problem_proofs.proofs.refuting.with_symbols.Given as goal

abbrev pub invariant-loop-symbol : goal.invariant-loop-symbol
invariant-loop-symbol l = l.grown ≡ with_symbols l.sig (l.sig.symbols ++ take l.symbol-index l.symbols)
