-- Numbers that stand under what is at the heads of terms.
use Rattle.std.specs.Prelude.{ℕ, ◌≡◌, List, [], Some, Bool, nat_eq, unwrap_or, slice_get, Contains}
use Rattle.indexmap.specs.IndexMap.{get}
use Rattle.clause_index.specs.declared.keys.Key.{Key}
use Rattle.clause_index.specs.declared.keys.Key.TheVariants.{Head, Open}
use Rattle.clause_index.specs.declared.entry.Entry.{Entry}
use Rattle.clause_index.specs.declared.heads.Heads.{Heads}

-- the numbers under a symbol, and under no symbol
abbrev pub numbers_at : Heads → Key → List ℕ
numbers_at h (Head f) = unwrap_or (get nat_eq h.by_symbol f) []
numbers_at h Open = h.open

-- the number of each entry with this sign stands under what is at its head
pub record IsFiled (positive : Bool) (entries : List Entry) (h : Heads) : Type 0 where
  pub filed : (i : ℕ) (e : Entry) → slice_get entries i ≡ Some e → e.positive ≡ positive
      → Contains (numbers_at h e.keys.whole) i
