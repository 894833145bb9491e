-- The entries of an index, and which of them are partners of a term.
use Rattle.std.specs.Prelude.{ℕ, List, Bool, false, ◌≡◌, Contains}
use Rattle.std.specs.List.Sorted.{IsStrictlyIncreasing}
use Rattle.fof_terms.specs.declared.term.Term.{Term}
use Rattle.clause_index.specs.declared.keys.Keys.{Keys}
use Rattle.clause_index.specs.declared.entry.Entry.{Entry}
use Rattle.clause_index.specs.Keys.{keys_of, do_clash}

-- what is kept of a term
abbrev pub entry_of : ℕ → Bool → Term → Entry
entry_of place positive t = record { place = place; positive = positive; keys = keys_of t }

-- the entry has this sign, and its keys don't clash with these
abbrev pub IsPartner : Bool → Keys → Entry → Type 0
IsPartner positive keys e = (e.positive ≡ positive) × (do_clash e.keys keys ≡ false)

-- the places of the entries that are partners, in ascending order and once each, and no others
pub record ArePlaces (entries : List Entry) (positive : Bool) (keys : Keys) (places : List ℕ) : Type 0 where
  pub ascending : IsStrictlyIncreasing places
  pub sound : (place : ℕ) → Contains places place
      → (e : Entry) × Contains entries e × IsPartner positive keys e × (e.place ≡ place)
  pub complete : (e : Entry) → Contains entries e → IsPartner positive keys e → Contains places e.place
