use Rattle.std.specs.Prelude.{drop}
use Rattle.std.proofs.Common.{◌≡◌, ◌++◌}
use Rattle.derivation_text.specs.Derivations as spec
use Rattle.derivation_text.proofs.lines.places_of.Given as goal

-- the places so far, and those that are left, are all
abbrev pub invariant-loop-line : goal.invariant-loop-line
invariant-loop-line l = l.places ++ spec.places_of (drop l.line-index l.lines) ≡ spec.places_of l.lines
