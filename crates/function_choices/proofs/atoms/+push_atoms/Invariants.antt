use Rattle.std.proofs.Common.{◌≡◌, ◌++◌, take}
use Rattle.std.specs.List.{flat_map}
use Rattle.function_choices.specs.Atoms.{atoms_at}
use Rattle.function_choices.proofs.atoms.+push_atoms.Given as goal

abbrev pub invariant-push_atoms_of_all-loop-form : goal.invariant-push_atoms_of_all-loop-form
invariant-push_atoms_of_all-loop-form l = l.atoms ≡ l.fn.atoms ++ flat_map (atoms_at l.depth) (take l.form-index l.forms)
