-- What entries by which functions come in add to a theory.
use Rattle.std.specs.Prelude.{ℕ, ◌≡◌, List, [], ◌∷◌, ◌++◌, length, slice_get, Option, Some, None}
use Rattle.fof_terms.specs.declared.form.Form.{Form}
use Rattle.fof_terms.specs.declared.signature.Symbol.{Symbol}
use Rattle.fof_terms.specs.Vocabulary.{Vocabulary}
use Rattle.kernel.specs.Statements.{Statements}
use Rattle.kernel.specs.Entries.{choice, Admits}
use Rattle.kernel.specs.declared.entry.Entry.{Entry}
use Rattle.kernel.specs.declared.entry.Entry.TheVariants.{Declare, Lemma, Name, Choice}
use Rattle.derive_kit.specs.Derived.{with_formulas}
use Rattle.skolem_fresh.specs.Told.{AddedFrom}

-- the formulas that the entries add
abbrev pub added_by : Option Symbol → ℕ → Form → List Form → List Form
added_by None f a rest = rest
added_by (Some symbol) f a rest = choice f symbol a ∷ rest

abbrev pub formulas_told : Vocabulary → List Entry → List Form
formulas_told v [] = []
formulas_told v (Choice f a ∷ rest) = added_by (slice_get v.symbols f) f a (formulas_told v rest)
formulas_told v (Declare d ∷ rest) = formulas_told v rest
formulas_told v (Lemma p ∷ rest) = formulas_told v rest
formulas_told v (Name k a ∷ rest) = formulas_told v rest

-- what the entries add, and where it then stands
pub record Enters (w : Statements) (told : List Entry) : Type 0 where
  pub admits : Admits w told (with_formulas w (formulas_told w.vocabulary told))
  pub stands : (t : Statements) → t.vocabulary ≡ w.vocabulary → (pre post : List Form) → t.formulas ≡ pre ++ (formulas_told w.vocabulary told ++ post) → (n : ℕ) → length pre ≡ n → AddedFrom t n told
