use Rattle.std.proofs.Common.{ℕ, ◌≡◌, ◌<◌, true}
use Rattle.unify_terms.specs.code.Classes.{class_of}
use Rattle.unify_terms.specs.code.Order.{is_done}
use Rattle.unify_terms.proofs.images.has_first.Given as goal

abbrev pub invariant-loop-variable : goal.invariant-loop-variable
invariant-loop-variable l = (k : ℕ) → k < l.variable → is_done l.needed (class_of l.classes k) ≡ true
