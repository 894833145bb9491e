use Rattle.std.specs.Prelude.{drop}
use Rattle.std.proofs.Common.{◌≡◌, ◌++◌}
use Rattle.derivation_text.specs.Derivations as spec
use Rattle.derivation_text.proofs.lines.forms_of.Given as goal

-- the formulas so far, and those that are left, are all
abbrev pub invariant-loop-line : goal.invariant-loop-line
invariant-loop-line l = l.forms ++ spec.denied_forms (drop l.line-index l.lines) ≡ spec.denied_forms l.lines
