use Rattle.std.proofs.Common.{◌≡◌, ◌++◌, drop}
use Rattle.verifier.specs.Lines.{given_from}
use Rattle.verifier.proofs.parents.given_parents.Given as goal

abbrev pub invariant-loop-number : goal.invariant-loop-number
invariant-loop-number l = l.given ++ given_from l.number (drop l.number l.theory.formulas) ≡ given_from 0 l.theory.formulas
