use Rattle.std.proofs.Common.{◌≡◌, drop}
use Rattle.flat_proofs.specs.code.Permuting.{at_numbers}
use Rattle.flat_proofs.proofs.instances.at_numbers.Given as goal

abbrev pub invariant-loop-number : goal.invariant-loop-number
invariant-loop-number l = at_numbers (drop l.number-index l.numbers) l.made ≡ at_numbers l.numbers l.fn.part
