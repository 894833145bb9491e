use Rattle.std.proofs.Common.{ℕ, ◌≡◌, length, get_or, None}
use Rattle.unify_terms.proofs.binding.none_bound.Given as goal

abbrev pub invariant-loop : goal.invariant-loop
invariant-loop l = (length l.bound.items ≡ l.counter) × ((k : ℕ) → get_or l.bound.items k None ≡ None)
