-- Which members are marked as partners.
use Rattle.std.specs.Prelude.{ℕ, Bool, true, false, not, List, [], ◌≡◌, Some, slice_get, length}
use Rattle.std.specs.List.{Contains}
use Rattle.clause_index.specs.declared.entry.Entry.{Entry}
use Rattle.clause_index.specs.Entries.{IsPartner}
use Rattle.clause_index.specs.Keys.{keys_of}
use Rattle.saturation.specs.declared.offers.Offer.{Offer}

pub record AllFalse (count : ℕ) (marks : List Bool) : Type 0 where
  pub many : length marks ≡ count
  pub each : (n : ℕ) → slice_get marks n ≡ Some true → ⊥

-- those of these numbers are marked now
pub record Marks (places : List ℕ) (old new : List Bool) : Type 0 where
  pub many : length new ≡ length old
  pub unmarked : (n : ℕ) → slice_get new n ≡ Some false → slice_get old n ≡ Some false
  pub others : (n : ℕ) → slice_get new n ≡ Some false → Contains places n → ⊥
  pub none : places ≡ [] → new ≡ old

-- no entry for this number is a partner of the offer
abbrev pub IsRuledOut : List Entry → Bool → Offer → ℕ → Type 0
IsRuledOut entries sign o n = o.positive ≡ sign → (e : Entry) → Contains entries e
    → IsPartner (not sign) (keys_of o.term) e → e.place ≡ n → ⊥

pub record IsAsked (whole : Bool) (entries : List Entry) (sign : Bool) (o : Offer) (old new : List Bool) : Type 0 where
  pub many : length new ≡ length old
  pub unmarked : (n : ℕ) → slice_get new n ≡ Some false → slice_get old n ≡ Some false
  pub others : whole ≡ true → (n : ℕ) → slice_get new n ≡ Some false → IsRuledOut entries sign o n
  pub blind : whole ≡ false → new ≡ old

pub record AreAsked (whole : Bool) (entries : List Entry) (sign : Bool) (offers : List Offer) (old new : List Bool) : Type 0 where
  pub many : length new ≡ length old
  pub unmarked : (n : ℕ) → slice_get new n ≡ Some false → slice_get old n ≡ Some false
  pub others : whole ≡ true → (n : ℕ) → slice_get new n ≡ Some false → (o : Offer) → Contains offers o
      → IsRuledOut entries sign o n
  pub blind : whole ≡ false → new ≡ old

-- a member that is not marked has no partner of these offers; over blind indexes none is marked
pub record IsMarked (whole : Bool) (count : ℕ) (sign : Bool) (literals terms : List Offer) (literal_entries term_entries : List Entry) (marks : List Bool) : Type 0 where
  pub many : length marks ≡ count
  pub literals_out : whole ≡ true → (n : ℕ) → slice_get marks n ≡ Some false → (o : Offer) → Contains literals o
      → IsRuledOut literal_entries sign o n
  pub terms_out : whole ≡ true → (n : ℕ) → slice_get marks n ≡ Some false → (o : Offer) → Contains terms o
      → IsRuledOut term_entries sign o n
  pub blind : whole ≡ false → (n : ℕ) → slice_get marks n ≡ Some true → ⊥
