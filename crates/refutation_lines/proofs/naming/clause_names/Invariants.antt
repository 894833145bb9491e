use Rattle.std.proofs.Common.{◌≡◌, map, take}
use Rattle.refutation_lines.specs.Names.{clause_name}
use Rattle.refutation_lines.proofs.naming.clause_names.Given as goal

abbrev pub invariant-loop-place : goal.invariant-loop-place
invariant-loop-place l = l.names ≡ map clause_name (take l.place-index l.places)
