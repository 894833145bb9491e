use Rattle.std.proofs.Common.{◌≡◌, ◌++◌, take}
use Rattle.step_search.proofs.Growing.{symbols_in, with_symbols}
use Rattle.step_search.proofs.grown.add_functions.Given as goal

abbrev pub invariant-loop-skolem : goal.invariant-loop-skolem
invariant-loop-skolem l = l.grown ≡ with_symbols l.initial.grown (l.initial.grown.symbols ++ symbols_in (take l.skolem-index l.skolems))
