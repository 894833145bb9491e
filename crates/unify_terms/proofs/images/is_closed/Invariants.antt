use Rattle.std.proofs.Common.{ℕ, ◌≡◌, ◌<◌, true}
use Rattle.unify_terms.specs.code.Graph.{numbers_at}
use Rattle.unify_terms.specs.code.Order.{is_done, all_done}
use Rattle.unify_terms.proofs.images.is_closed.Given as goal

abbrev pub invariant-loop-at : goal.invariant-loop-at
invariant-loop-at l = (i : ℕ) → i < l.at → is_done l.needed i ≡ true → all_done l.classes l.needed (numbers_at l.nodes i) ≡ true
