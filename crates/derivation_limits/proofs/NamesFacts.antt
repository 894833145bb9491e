-- Tables of names of items.
use Rattle.std.specs.Prelude.{ℕ, ◌≡◌, List, Result, Ok, Err, OnOk}
use Rattle.std.proofs.Common.{ap, sym, subst}
use Rattle.tptp_base.specs.declared.name.Name.{Name}
use Rattle.tptp_base.specs.declared.name.Name.TheVariants.{Word, Integer}
use Rattle.derivation_limits.specs.Names.{AddsName, HasNone}
use Rattle.derivation_limits.specs.Totals.{Adds, IsEmpty, total_of}
use Rattle.derivation_limits.specs.declared.totals.Totals.{Totals}
use Rattle.derivation_limits.specs.declared.names.NameTotals.{NameTotals}

pub has_none : (table : NameTotals) → IsEmpty table.words → IsEmpty table.integers → HasNone table
has_none table words integers (Word word) = words word
has_none table words integers (Integer number) = integers number

adds_word : (old new : NameTotals) (word : List ℕ) (amount : ℕ) → Adds old.words word amount new.words → new.integers ≡ old.integers → AddsName old (Word word) amount new
adds_word old new word amount adds same (Word other) = adds other
adds_word old new word amount adds same (Integer other) = ap (λ (t : Totals). total_of t other) same

adds_integer : (old new : NameTotals) (number : List ℕ) (amount : ℕ) → Adds old.integers number amount new.integers → new.words ≡ old.words → AddsName old (Integer number) amount new
adds_integer old new number amount adds same (Word other) = ap (λ (t : Totals). total_of t other) same
adds_integer old new number amount adds same (Integer other) = adds other

pub adds_word_on : {T E : Type 0} (r : Result T E) (old new : NameTotals) (amount : ℕ) (name : Name) (word slice : List ℕ) → name ≡ Word word → slice ≡ word → OnOk r (Adds old.words slice amount new.words) → new.integers ≡ old.integers → OnOk r (AddsName old name amount new)
adds_word_on (Ok value) old new amount name word slice named same adds kept =
    subst (λ (n : Name). AddsName old n amount new) (sym named) (adds_word old new word amount (subst (λ (t : List ℕ). Adds old.words t amount new.words) same adds) kept)
adds_word_on (Err error) old new amount name word slice named same adds kept = tt

pub adds_integer_on : {T E : Type 0} (r : Result T E) (old new : NameTotals) (amount : ℕ) (name : Name) (number slice : List ℕ) → name ≡ Integer number → slice ≡ number → OnOk r (Adds old.integers slice amount new.integers) → new.words ≡ old.words → OnOk r (AddsName old name amount new)
adds_integer_on (Ok value) old new amount name number slice named same adds kept =
    subst (λ (n : Name). AddsName old n amount new) (sym named) (adds_integer old new number amount (subst (λ (t : List ℕ). Adds old.integers t amount new.integers) same adds) kept)
adds_integer_on (Err error) old new amount name number slice named same adds kept = tt
