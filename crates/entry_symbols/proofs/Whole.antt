-- Entries that are legal wherever what is cited stands, and mention no foreign symbol, are legal whatever those are.
use Rattle.std.specs.Prelude.{ℕ, ◌≡◌, ◌<◌, ◌==◌, Bool, true, false, List, [], ◌∷◌, length, Some, slice_get, refl}
use Rattle.std.specs.List.{All as Each}
use Rattle.std.proofs.Common.{ap, sym, ◌∙◌, subst, arith, ◌⊎◌, inl, inr}
use Rattle.std.proofs.lemmas.Bool.Decides.{nat_tests}
use Rattle.std.proofs.lemmas.Bool.{eqb-true}
use Rattle.std.proofs.lemmas.List.Elements.{All-nil, All-cons, All-head, All-tail}
use Rattle.std.proofs.lemmas.Option.{slice_get_within}
use Rattle.fof_terms.specs.Occurs.{occurs_in}
use Rattle.fof_terms.specs.declared.form.Form.{Form}
use Rattle.kernel.specs.Statements.{Statements}
use Rattle.kernel.specs.Entries.{Admits}
use Rattle.kernel.specs.declared.entry.Entry.{Entry}
use Rattle.derive_kit.specs.Derived.{HasCited}
use Rattle.verifier.specs.Citing.{DoNotCite}
use Rattle.entry_symbols.specs.Mentioned.{IsForeign, SpeakInside, HasAlike, AreLegalAlike}
use Rattle.entry_symbols.proofs.Free.{IsFree}
use Rattle.entry_symbols.proofs.Kept.{IsLike}
use Rattle.entry_symbols.proofs.Staying.{entries_stay}

-- the entries are legal in turn after each theory that has what is cited
abbrev pub AreLegalWith : Statements → List ℕ → List Entry → Type 0
AreLegalWith t cites es = (u : Statements) → HasCited t cites u → (after : Statements) × Admits u es after

-- no formula of these numbers
abbrev pub IsUncited : Statements → List ℕ → ℕ → Type 0
IsUncited t cites n = (n < length t.formulas) × Each (λ cited. cited ≡ n → ⊥) cites

same_or_apart : (c n : ℕ) → (b : Bool) → (c == n) ≡ b → (c ≡ n) ⊎ (c ≡ n → ⊥)
same_or_apart c n true is = inl (eqb-true c n is)
same_or_apart c n false is = inr (λ same. grind (arith, nat_tests))

-- what holds of each holds of the number, or it is none of them
of_cited : (P : ℕ → Type 0) (cites : List ℕ) (n : ℕ) → Each P cites → P n ⊎ Each (λ cited. cited ≡ n → ⊥) cites
of_cited P [] n all = inr (All-nil (λ cited. cited ≡ n → ⊥))
of_cited P (c ∷ cites) n all = on (same_or_apart c n (c == n) refl) (of_cited P cites n (All-tail P c cites all))
  where
    on : (c ≡ n) ⊎ (c ≡ n → ⊥) → P n ⊎ Each (λ cited. cited ≡ n → ⊥) cites → P n ⊎ Each (λ cited. cited ≡ n → ⊥) (c ∷ cites)
    on (inl same) later = inl (subst P same (All-head P c cites all))
    on (inr apart) (inl holds) = inl holds
    on (inr apart) (inr none) = inr (All-cons (λ cited. cited ≡ n → ⊥) c cites apart none)

-- with the symbols of the first theory and the formulas of the second
abbrev between : Statements → Statements → Statements
between t u = record u { vocabulary = t.vocabulary }

module _ (t : Statements) (cites : List ℕ) (line : Form) (u : Statements) (alike : HasAlike t cites line u) where
  has_cited : HasCited t cites (between t u)
  has_cited = record { vocabulary = refl; count = alike.count; formulas = alike.formulas; fresh = alike.fresh }

  cited_free : (i : ℕ) (a : Form) → (IsUncited t cites i → ⊥) → slice_get u.formulas i ≡ Some a → IsFree (IsForeign t cites line) a
  cited_free i a seen at k foreign = on (of_cited (λ n. (slice_get u.formulas n ≡ slice_get t.formulas n) × ((b : Form) → slice_get t.formulas n ≡ Some b → occurs_in k b ≡ false)) cites i (both_of cites alike.formulas foreign.cited))
    where
      both_of : (numbers : List ℕ) → Each (λ n. slice_get u.formulas n ≡ slice_get t.formulas n) numbers → Each (λ n. (b : Form) → slice_get t.formulas n ≡ Some b → occurs_in k b ≡ false) numbers
          → Each (λ n. (slice_get u.formulas n ≡ slice_get t.formulas n) × ((b : Form) → slice_get t.formulas n ≡ Some b → occurs_in k b ≡ false)) numbers
      both_of numbers first second = λ n d within. (first n d within, second n d within)

      on : ((slice_get u.formulas i ≡ slice_get t.formulas i) × ((b : Form) → slice_get t.formulas i ≡ Some b → occurs_in k b ≡ false)) ⊎ Each (λ cited. cited ≡ i → ⊥) cites → occurs_in k a ≡ false
      on (inl (same, none)) = none a (sym same ∙ at)
      on (inr apart) = absurd (seen (omega (arith, slice_get_within u.formulas i a at, alike.count), apart))

  like : IsLike (between t u) u (IsForeign t cites line) (IsUncited t cites)
  like = record {
    count = refl;
    symbol_count = alike.symbol_count;
    fresh = λ k fresh. fresh;
    sorts = ap (λ (sorts : List (List ℕ)). length sorts) alike.sorts;
    symbols = alike.symbols;
    formulas = λ i a seen at. at;
    free = cited_free;
  }

pub inside_is_alike : (t : Statements) (cites : List ℕ) (line : Form) (es : List Entry) → AreLegalWith t cites es → ((n : ℕ) → n < length t.formulas → Each (λ cited. cited ≡ n → ⊥) cites → DoNotCite n es)
    → SpeakInside t cites line es → AreLegalAlike t cites line es
inside_is_alike t cites line es legal spare inside u alike =
    let whole = legal (between t u) (has_cited t cites line u alike) in
    entries_stay (IsForeign t cites line) (IsUncited t cites) (between t u) u es whole.0 (like t cites line u alike) inside (λ n uncited. spare n uncited.0 uncited.1) whole.1
