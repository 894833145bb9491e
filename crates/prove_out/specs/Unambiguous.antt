-- Signatures in which a name says what it means.
use Rattle.std.specs.Prelude.{ℕ, ◌≡◌, ◌<◌, Some, length, slice_get}
use Rattle.fof_terms.specs.Vocabulary.{Vocabulary}
use Rattle.fof_terms.specs.declared.signature.Symbol.{Symbol}
use Rattle.sort_check.specs.Symbols.{Text}

-- No two symbols of one kind and one number of arguments have one name, and no two sorts other than sort 0 have one.
pub record IsUnambiguous (v : Vocabulary) : Type 0 where
  pub symbols : (i j : ℕ) (s t : Symbol) → slice_get v.symbols i ≡ Some s → slice_get v.symbols j ≡ Some t
      → s.name ≡ t.name → s.kind ≡ t.kind → length s.args ≡ length t.args → i ≡ j
  pub sorts : (i j : ℕ) (name : Text) → 0 < i → 0 < j → slice_get v.sorts i ≡ Some name → slice_get v.sorts j ≡ Some name → i ≡ j
