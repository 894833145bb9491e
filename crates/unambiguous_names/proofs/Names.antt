-- A vocabulary whose names say what they mean stays so with one more symbol, and with one more sort, that is not there.
use Rattle.std.proofs.Common.{◌≡◌, ℕ, zero, suc, ◌+◌, ◌<◌, List, [], ◌∷◌, ◌++◌, length, slice_get, Option, Some, None, refl, sym, ◌∙◌, ap, subst, arith, ◌⊎◌, inl, inr, add-one}
use Rattle.std.proofs.lemmas.Option.{slice_get_within}
use Rattle.fof_terms.specs.Vocabulary.{Vocabulary, found_symbol, found_sort}
use Rattle.fof_terms.specs.declared.signature.Kind.{Kind}
use Rattle.fof_terms.specs.declared.signature.Symbol.{Symbol}
use Rattle.sort_check.specs.Symbols.{Text}
use Rattle.prove_out.specs.Unambiguous.{IsUnambiguous}
use Rattle.prove_out.proofs.Finding.{symbol_found, sort_found}
use Rattle.unambiguous_names.proofs.Steps.{Steps, and_symbol, and_sort}
use Rattle.unambiguous_names.proofs.Formulas.{same_search}

-- what stands in a list with one more element stands in the list, or is that element at its end
pub before_or_last : {X : Type 0} (xs : List X) (y : X) (i : ℕ) (x : X) → slice_get (xs ++ y ∷ []) i ≡ Some x → (slice_get xs i ≡ Some x) ⊎ ((i ≡ length xs) × (x ≡ y))
before_or_last [] y zero x at = let same : y ≡ x = cc in inr (refl, sym same)
before_or_last [] y (suc i) x at = absurd (cc)
before_or_last (z ∷ xs) y zero x at = inl at
before_or_last (z ∷ xs) y (suc i) x at = elim (before_or_last xs y i x at) [
  | inl h ↦ inl h
  | inr h ↦ inr (ap suc h.0, h.1)
]

-- a name that is not found is no name of a symbol
no_namesake : (v : Vocabulary) → IsUnambiguous v → (s : Symbol) → found_symbol v s.name s.kind (length s.args) ≡ None → (i : ℕ) (t : Symbol) → slice_get v.symbols i ≡ Some t → t.name ≡ s.name → t.kind ≡ s.kind → length t.args ≡ length s.args → ⊥
no_namesake v u s none i t at named of_kind count =
    let there : Some i ≡ found_symbol v s.name s.kind (length s.args) = sym (symbol_found v u i t at) ∙ same_search v t s.name s.kind (length s.args) named of_kind count in
    let wrong : Some i ≡ None = there ∙ none in
    cc

pub with_symbol : (v : Vocabulary) (s : Symbol) → found_symbol v s.name s.kind (length s.args) ≡ None → IsUnambiguous v → IsUnambiguous (and_symbol v s)
with_symbol v s none u = record { symbols = symbols; sorts = u.sorts }
  where
    symbols : (i j : ℕ) (a b : Symbol) → slice_get (v.symbols ++ s ∷ []) i ≡ Some a → slice_get (v.symbols ++ s ∷ []) j ≡ Some b → a.name ≡ b.name → a.kind ≡ b.kind → length a.args ≡ length b.args → i ≡ j
    symbols i j a b at other named of_kind count = elim (before_or_last v.symbols s i a at) [
      | inl h ↦ elim (before_or_last v.symbols s j b other) [
        | inl k ↦ u.symbols i j a b h k named of_kind count
        | inr k ↦ absurd (no_namesake v u s none i a h (named ∙ ap (λ (x : Symbol). x.name) k.1) (of_kind ∙ ap (λ (x : Symbol). x.kind) k.1) (count ∙ ap (λ (x : Symbol). length x.args) k.1))
      ]
      | inr h ↦ elim (before_or_last v.symbols s j b other) [
        | inl k ↦ absurd (no_namesake v u s none j b k (sym named ∙ ap (λ (x : Symbol). x.name) h.1) (sym of_kind ∙ ap (λ (x : Symbol). x.kind) h.1) (sym count ∙ ap (λ (x : Symbol). length x.args) h.1))
        | inr k ↦ h.0 ∙ sym k.0
      ]
    ]

no_other : (v : Vocabulary) → IsUnambiguous v → (name : Text) → found_sort v name ≡ None → (i : ℕ) (other : Text) → 0 < i → slice_get v.sorts i ≡ Some other → other ≡ name → ⊥
no_other v u name none zero other some at same = absurd (omega arith)
no_other v u name none (suc i) other some at same =
    let wrong : Some (suc i) ≡ None = sym (sort_found v u i other at) ∙ ap (found_sort v) same ∙ none in
    cc

pub with_sort : (v : Vocabulary) (name : Text) → found_sort v name ≡ None → IsUnambiguous v → IsUnambiguous (and_sort v name)
with_sort v name none u = record { symbols = u.symbols; sorts = sorts }
  where
    sorts : (i j : ℕ) (other : Text) → 0 < i → 0 < j → slice_get (v.sorts ++ name ∷ []) i ≡ Some other → slice_get (v.sorts ++ name ∷ []) j ≡ Some other → i ≡ j
    sorts i j other first second at beside = elim (before_or_last v.sorts name i other at) [
      | inl h ↦ elim (before_or_last v.sorts name j other beside) [
        | inl k ↦ u.sorts i j other first second h k
        | inr k ↦ absurd (no_other v u name none i other first h k.1)
      ]
      | inr h ↦ elim (before_or_last v.sorts name j other beside) [
        | inl k ↦ absurd (no_other v u name none j other second k h.1)
        | inr k ↦ h.0 ∙ sym k.0
      ]
    ]

abbrev pub Keeps : Vocabulary → Vocabulary → Type 0
Keeps v w = IsUnambiguous v → IsUnambiguous w

pub keeps : Steps Keeps
keeps = record {
  none = λ v u. u;
  on = λ a b c one two u. two (one u);
  symbol = with_symbol;
  sort = with_sort;
}
