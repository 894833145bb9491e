use Rattle.function_choices.proofs.Offered.{AreFound}
use Rattle.function_choices.proofs.symbols.new_symbols.Given as goal

abbrev pub invariant-loop-symbol : goal.invariant-loop-symbol
invariant-loop-symbol l = AreFound l.theory l.line l.listed l.symbol-index l.found
