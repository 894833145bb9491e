-- How numbers are filed and places gathered.
use Rattle.std.specs.Prelude.{ℕ, ◌≡◌, ◌++◌, [], ◌∷◌, List, Bool, true, false, not, ◌&&◌, map, filter, filter_map}
use Rattle.std.specs.Prelude.{slice_get}
use Rattle.clause_index.specs.declared.keys.Key.{Key}
use Rattle.clause_index.specs.declared.keys.Keys.{Keys}
use Rattle.clause_index.specs.declared.entry.Entry.{Entry}
use Rattle.clause_index.specs.declared.heads.Heads.{Heads}
use Rattle.clause_index.specs.Heads.{numbers_at}
use Rattle.clause_index.specs.Keys.{do_clash}

-- the number was put behind the others under this key
pub record Puts (old : Heads) (key : Key) (number : ℕ) (new : Heads) : Type 0 where
  pub here : numbers_at new key ≡ numbers_at old key ++ number ∷ []
  pub elsewhere : (other : Key) → (other ≡ key → ⊥) → numbers_at new other ≡ numbers_at old other

-- the same numbers stand under each key
pub record HasSameNumbers (old new : Heads) : Type 0 where
  pub same : (key : Key) → numbers_at new key ≡ numbers_at old key

-- the two signs are one
abbrev pub is_sign : Bool → Bool → Bool
is_sign true sign = sign
is_sign false sign = not sign

-- the entry has this sign, and its keys don't clash with these
abbrev pub is_partner : Bool → Keys → Entry → Bool
is_partner positive keys e = is_sign positive e.positive && not (do_clash e.keys keys)

-- the places of those that are partners
abbrev pub partner_places : Bool → Keys → List Entry → List ℕ
partner_places positive keys entries = map (λ e. e.place) (filter (is_partner positive keys) entries)

-- the entries of these numbers
abbrev pub numbered : List Entry → List ℕ → List Entry
numbered entries = filter_map (slice_get entries)
