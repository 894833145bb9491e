-- The entries by which functions come in that choose, and what they show.
use Rattle.std.specs.Prelude.{ℕ, suc, ◌≡◌, List, [], ◌∷◌, slice_get, Some}
use Rattle.fof_terms.specs.declared.signature.Symbol.{Symbol}
use Rattle.fof_terms.specs.Sorts.{Sorted}
use Rattle.kernel.specs.Statements.{Statements}
use Rattle.kernel.specs.Entries.{choice}
use Rattle.kernel.specs.declared.entry.Entry.{Entry}
use Rattle.kernel.specs.declared.entry.Entry.TheVariants.{Declare, Lemma, Name, Choice}

-- what these entries add stands in turn in the theory, from number n on
abbrev pub AddedFrom : Statements → ℕ → List Entry → Type 0
AddedFrom t n [] = Unit {0}
AddedFrom t n (Choice f a ∷ rest) =
    ((symbol : Symbol) × (slice_get t.vocabulary.symbols f ≡ Some symbol) × (slice_get t.formulas n ≡ Some (choice f symbol a)) × Sorted t.vocabulary [] (choice f symbol a)) × AddedFrom t (suc n) rest
AddedFrom t n (Declare d ∷ rest) = ⊥
AddedFrom t n (Lemma p ∷ rest) = ⊥
AddedFrom t n (Name k a ∷ rest) = ⊥
