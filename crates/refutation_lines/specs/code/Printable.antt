-- Numbers and depths are within what the code can count.
use Rattle.std.specs.Prelude.{ℕ, ◌≡◌, ◌+◌, ◌<◌, ◌^◌, List, get_or, Some, slice_get}
use Rattle.fof_terms.specs.Sorts.{binder_depth}
use Rattle.step_clauses.specs.Existentials.{ex_count}
use Rattle.given_parts.specs.declared.part.Part.{Part}

-- a part can be written with functions from that number on
pub record IsRoomy (first : ℕ) (p : Part) : Type 0 where
  pub numbers : first + ex_count p.norm < 2 ^ 32
  pub depth : binder_depth p.norm < 2 ^ 32

-- so can each of these parts, with functions from its first number on
abbrev pub AreRoomy : List ℕ → List Part → Type 0
AreRoomy firsts parts = (k : ℕ) (p : Part) → slice_get parts k ≡ Some p → IsRoomy (get_or firsts k 0) p
