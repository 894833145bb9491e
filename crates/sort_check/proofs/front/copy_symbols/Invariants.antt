use Rattle.std.proofs.Common.{◌≡◌, take}
use Rattle.sort_check.specs.code.Fronts.{front}
use Rattle.sort_check.proofs.Fronting.{with_symbols}
use Rattle.sort_check.proofs.front.copy_symbols.Given as goal

abbrev pub invariant-loop-number : goal.invariant-loop-number
invariant-loop-number l = l.copy ≡ with_symbols (front l.fn.extent l.signature) (take l.number l.signature.symbols)
