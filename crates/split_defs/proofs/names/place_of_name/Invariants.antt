use Rattle.std.proofs.Common.{ℕ, ◌≡◌, ◌<◌, Some, slice_get}
use Rattle.split_defs.specs.SplitRule.{name_lit}
use Rattle.split_defs.proofs.names.place_of_name.Given as goal

abbrev pub invariant-loop-i : goal.invariant-loop-i
invariant-loop-i l = (k : ℕ) → k < l.i → slice_get l.lits k ≡ Some (name_lit l.symbol) → ⊥
