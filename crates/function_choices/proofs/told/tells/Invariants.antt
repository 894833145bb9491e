use Rattle.std.proofs.Common.{◌≡◌, drop, find}
use Rattle.std.specs.Prelude.{◌==◌}
use Rattle.function_choices.specs.declared.matched.Matched.{Matched}
use Rattle.function_choices.proofs.told.tells.Given as goal

abbrev pub invariant-loop-one : goal.invariant-loop-one
invariant-loop-one l = find (λ (m : Matched). m.variable == l.variable) (drop l.one-index l.matched) ≡ find (λ (m : Matched). m.variable == l.variable) l.matched
