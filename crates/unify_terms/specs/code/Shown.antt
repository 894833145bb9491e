-- What variables that are bound stand for.
use Rattle.std.specs.Prelude.{ℕ, ◌≡◌, ◌<◌, ◌≤◌, zero, suc, List, length, map, Option}
use Rattle.std.specs.Borrow.{Bor}
use Rattle.fof_terms.specs.declared.term.Term.{Term, Var}
use Rattle.unify_terms.specs.Substitution.{applied, image_at}
use Rattle.unify_terms.specs.code.Binding.{bound_at}

-- what a variable stands for, so many bindings deep
abbrev pub seen : List (Option (Bor Term)) → ℕ → ℕ → Term
seen bound zero k = Var k
seen bound (suc d) k = applied (seen bound d) (bound_at bound k)

-- what a term stands for, from this depth on
pub record IsShown (bound : List (Option (Bor Term))) (depth : ℕ) (term made : Term) : Type 0 where
  pub from : (d : ℕ) → depth ≤ d → made ≡ applied (seen bound d) term

pub record AllShown (bound : List (Option (Bor Term))) (depth : ℕ) (terms made : List Term) : Type 0 where
  pub from : (d : ℕ) → depth ≤ d → made ≡ map (applied (seen bound d)) terms

-- the images of the first n variables
pub record AreShown (bound : List (Option (Bor Term))) (n : ℕ) (images : List Term) : Type 0 where
  pub size : length images ≡ n
  pub are : (k : ℕ) → k < n → IsShown bound (length bound) (Var k) (image_at images k)
