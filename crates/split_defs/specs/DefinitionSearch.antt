-- How far the search for a definition has come: at the two sides, and at what stands under the quantifiers.
use Rattle.std.specs.Prelude.{ℕ, Bool, Option, Some, None}
use Rattle.split_defs.specs.declared.just.SplitJust.{SplitJust}
use Rattle.split_defs.specs.declared.just.SplitJust.TheVariants.{Definition, Split}

-- a definition with the property, or none where none has it
abbrev pub IsFoundDefinition : (ℕ → Bool → Type 0) → Option SplitJust → Type 0
IsFoundDefinition P None = (k : ℕ) (first : Bool) → P k first → ⊥
IsFoundDefinition P (Some (Definition k first)) = P k first
IsFoundDefinition P (Some (Split n names images)) = ⊥
