use Rattle.std.proofs.Common.{◌≡◌, not, drop, find}
use Rattle.include_resolve.specs.Selection.{has_formula}
use Rattle.include_resolve.proofs.selection.unknown_name_of.Given as goal

abbrev pub invariant-loop-name : goal.invariant-loop-name
invariant-loop-name l = find (λ name. not (has_formula l.items name)) (drop l.name-index l.names) ≡ find (λ name. not (has_formula l.items name)) l.names
