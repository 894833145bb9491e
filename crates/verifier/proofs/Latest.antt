-- How the last line that is falsehood is found, line by line.
use Rattle.std.specs.Prelude.{MatchOption}
use Rattle.std.proofs.Common.{◌≡◌, ◌↔◌, ℕ, ◌+◌, ◌<◌, ◌≤◌, ◌==◌, ◌⊎◌, inl, inr, nat_lt, cond, Bool, true, false, List, [], length, Option, None, Some, slice_get, refl, sym, ◌∙◌, ap, arith}
use Rattle.std.proofs.lemmas.Bool.Decides.{nat_tests}
use Rattle.std.proofs.lemmas.Option.{slice_get_within}
use Rattle.fof_terms.specs.declared.form.Form.{Form, Or}
use Rattle.verifier.specs.Closing.{HasFalseLine, IsFalseLine, IsLastFalse}
use Rattle.verifier.specs.code.Latest.{later}
use Rattle.verifier.specs.code.Numbered.{joined}
use Rattle.verifier.proofs.Slots.{one_value}

-- an accepted line that is falsehood has this number, and stands before this place
pub record IsBefore (forms : List Form) (numbers : List (Option ℕ)) (count number : ℕ) : Type 0 where
  pub line : IsFalseLine forms numbers number
  pub before : line.place < count

-- of the accepted lines before this place that are falsehood, the last that was checked has this number, or there is
-- none
abbrev pub IsLastBefore : List Form → List (Option ℕ) → ℕ → Option ℕ → Type 0
IsLastBefore forms numbers count None = (number : ℕ) → IsBefore forms numbers count number → ⊥
IsLastBefore forms numbers count (Some last) = IsFalseLine forms numbers last × ((number : ℕ) → IsBefore forms numbers count number → number ≤ last)

pub last_none : (forms : List Form) (numbers : List (Option ℕ)) → IsLastBefore forms numbers 0 None
last_none forms numbers = λ number is. omega (arith, is.before)

joined_some : (o : Option (Option ℕ)) (n : ℕ) → joined o ≡ Some n → o ≡ Some (Some n)
joined_some None n is = cc
joined_some (Some number) n is = ap (λ (x : Option ℕ). Some x) is

-- the line at this place, which is falsehood and has this number, or is not
module _ (forms : List Form) (numbers : List (Option ℕ)) (count : ℕ) (form : Form) (found : Option ℕ) (there : slice_get forms count ≡ Some form) (is : (n : ℕ) → (found ≡ Some n) ↔ ((form ≡ Or []) × (joined (slice_get numbers count) ≡ Some n))) where
  found_line : (n : ℕ) → found ≡ Some n → IsFalseLine forms numbers n
  found_line n same =
      let parts = (is n).0 same in
      record { place = count; is_false = there ∙ ap (λ (a : Form). Some a) parts.0; numbered = joined_some (slice_get numbers count) n parts.1 }

  -- a line before the next place is before this one, or here
  before_or_here : (n : ℕ) → IsBefore forms numbers (count + 1) n → IsBefore forms numbers count n ⊎ (found ≡ Some n)
  before_or_here n earlier = by (earlier.line.place == count) refl
    where
      by : (b : Bool) → (earlier.line.place == count) ≡ b → IsBefore forms numbers count n ⊎ (found ≡ Some n)
      by true test =
          let same : earlier.line.place ≡ count = grind (arith, nat_tests) in
          let form_is : form ≡ Or [] = one_value (slice_get forms count) form (Or []) there (ap (slice_get forms) (sym same) ∙ earlier.line.is_false) in
          inr ((is n).1 (form_is, ap joined (ap (slice_get numbers) (sym same) ∙ earlier.line.numbered)))
      by false test =
          let apart : earlier.line.place ≡ count → ⊥ = λ same. grind (arith, nat_tests) in
          inl (record { line = earlier.line; before = omega (arith, earlier.before, apart) })

  -- one line more
  pub last_more : (last : Option ℕ) → IsLastBefore forms numbers count last → IsLastBefore forms numbers (count + 1) (later last found)
  last_more last so_far = more last found refl so_far
    where
      never : (n : ℕ) → found ≡ None → found ≡ Some n → ⊥
      never n none some = cc

      same : (n m : ℕ) → found ≡ Some m → found ≡ Some n → n ≡ m
      same n m one other = one_value found n m other one

      more : (last f : Option ℕ) → found ≡ f → IsLastBefore forms numbers count last → IsLastBefore forms numbers (count + 1) (later last f)
      more None None e before = λ n b. elim (before_or_here n b) [ inl earlier ↦ before n earlier | inr here ↦ never n e here ]
      more None (Some m) e before = (found_line m e, λ n b. elim (before_or_here n b) [ inl earlier ↦ absurd (before n earlier) | inr here ↦ omega (arith, same n m e here) ])
      more (Some k) None e before = (before.0, λ n b. elim (before_or_here n b) [ inl earlier ↦ before.1 n earlier | inr here ↦ absurd (never n e here) ])
      more (Some k) (Some m) e before = by (nat_lt k m) refl
        where
          by : (b : Bool) → nat_lt k m ≡ b → IsLastBefore forms numbers (count + 1) (cond b (Some m) (Some k))
          by true test =
              let less : k < m = grind (arith, nat_tests) in
              (found_line m e, λ n b. elim (before_or_here n b) [ inl earlier ↦ omega (arith, less, before.1 n earlier) | inr here ↦ omega (arith, same n m e here) ])
          by false test =
              let most : m ≤ k = grind (arith, nat_tests) in
              (before.0, λ n b. elim (before_or_here n b) [ inl earlier ↦ before.1 n earlier | inr here ↦ omega (arith, most, same n m e here) ])

-- all lines
pub last_all : (forms : List Form) (numbers : List (Option ℕ)) (count : ℕ) (last : Option ℕ) → length forms ≤ count → IsLastBefore forms numbers count last → MatchOption last (HasFalseLine forms numbers → ⊥) (IsLastFalse forms numbers)
last_all forms numbers count None all so_far = λ has. so_far has.0 (record { line = has.1; before = omega (arith, all, slice_get_within forms has.1.place (Or []) has.1.is_false) })
last_all forms numbers count (Some last) all so_far = record {
  is = so_far.0;
  last = λ other line. so_far.1 other (record { line = line; before = omega (arith, all, slice_get_within forms line.place (Or []) line.is_false) });
}
