use Rattle.std.proofs.Common.{◌≡◌, take, filter}
use Rattle.function_choices.specs.declared.atoms.Placed.{Placed}
use Rattle.function_choices.specs.Atoms.{stands_in}
use Rattle.function_choices.proofs.atoms.with_variable.Given as goal

abbrev pub invariant-loop-placed : goal.invariant-loop-placed
invariant-loop-placed l = l.found ≡ filter (λ (p : Placed). stands_in p.depth p.atom) (take l.placed-index l.atoms)
