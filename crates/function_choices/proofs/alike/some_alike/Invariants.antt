use Rattle.std.proofs.Common.{◌≡◌, take, false}
use Rattle.std.specs.List.{list_any}
use Rattle.function_choices.specs.Alike.{atoms_alike}
use Rattle.function_choices.specs.declared.atoms.Placed.{Placed}
use Rattle.function_choices.proofs.alike.some_alike.Given as goal

abbrev pub invariant-loop-placed : goal.invariant-loop-placed
invariant-loop-placed l = list_any (λ (a : Placed). atoms_alike l.function l.pattern.depth l.pattern.atom a.atom) (take l.placed-index l.atoms) ≡ false
