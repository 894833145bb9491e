-- Lines that are inferred from one line alone, by a table that counts those without a normal form.
use Rattle.std.specs.Prelude.{ℕ, ◌≡◌, ◌+◌, ◌-◌, ◌^◌, ◌<◌, ◌≤◌, ◌↔◌, nat_lt, min, ◌||◌, Bool, true, false, IsTrue, if◌then◌else◌, List, [], ◌∷◌, get_or, length, map, take, refl}
use Rattle.std.specs.List.{list_any}
use Rattle.std.proofs.Common.{ap, sym, ◌∙◌, arith}
use Rattle.std.proofs.lemmas.Bool.Decides.{nat_tests}
use Rattle.std.proofs.lemmas.Option.{slice_get_read}
use Rattle.fof_terms.specs.declared.form.Form.{Form}
use Rattle.clause_form.specs.Sizes.{norm_size_of}
use Rattle.clause_form.proofs.SizeLaws.{sum_cons}
use Rattle.step_clauses.specs.Wide.{is_large}
use Rattle.derivation_items.specs.declared.line.LineSource.{LineSource}
use Rattle.derivation_items.specs.declared.line.LineSource.TheVariants.{Given, Skolemized, ClauseOf, Inferred}
use Rattle.derivation_items.specs.declared.line.ProofLine.{ProofLine}
use Rattle.derivation_limits.specs.Totals.{capped}
use Rattle.derivation_limits.specs.declared.totals.Totals.{Totals}
use Rattle.limited_items.specs.Premises.{HaveSmallPremises, is_from_large}
use Rattle.limited_items.specs.Sources.{lines_named}
use Rattle.limited_items.specs.code.Amounts.{is_from_counted, large_count, total}
use Rattle.limited_items.proofs.AmountFacts.{AreTotals}
use Rattle.limited_items.proofs.PlaceFacts.{HoldUpTo, hold_all}

-- ---- one formula

large : (a : Form) (size : ℕ) → size ≡ min (norm_size_of a) (2 ^ 128 - 1) → 100000 < size → is_large a ≡ true
large a size e h = let more : 100000 < norm_size_of a = omega arith in grind (arith, nat_tests)

not_large : (a : Form) (size : ℕ) → size ≡ min (norm_size_of a) (2 ^ 128 - 1) → size ≤ 100000 → is_large a ≡ false
not_large a size e h = let less : norm_size_of a ≤ 100000 = omega arith in grind (arith, nat_tests)

pub large_counts : (a : Form) (size : ℕ) → size ≡ min (norm_size_of a) (2 ^ 128 - 1) → 100000 < size → 1 ≡ large_count a
large_counts a size e h = sym (ap (λ (b : Bool). if b then 1 else 0) (large a size e h))

pub others_do_not : (a : Form) (size : ℕ) → size ≡ min (norm_size_of a) (2 ^ 128 - 1) → size ≤ 100000 → 0 ≡ large_count a
others_do_not a size e h = sym (ap (λ (b : Bool). if b then 1 else 0) (not_large a size e h))

-- ---- those of a name

some_more : (most n : ℕ) → 0 < most → nat_lt 0 (min (1 + n) most) ≡ true
some_more most n room = let more : 0 < min (1 + n) most = omega arith in grind (arith, nat_tests)

one_counted : (b : Bool) (most n : ℕ) → 0 < most → nat_lt 0 (min ((if b then 1 else 0) + n) most) ≡ (b || nat_lt 0 (min n most))
one_counted true most n room = some_more most n room
one_counted false most n room = let same : 0 + n ≡ n = omega arith in ap (λ (k : ℕ). nat_lt 0 (min k most)) same

any_counted : (forms : List Form) → nat_lt 0 (capped (total large_count forms)) ≡ list_any is_large forms
any_counted [] = refl
any_counted (a ∷ forms) =
    ap (λ (n : ℕ). nat_lt 0 (capped n)) (sum_cons (large_count a) (map large_count forms)) ∙ one_counted (is_large a) (2 ^ 64 - 1) (total large_count forms) (omega arith) ∙ ap (λ (b : Bool). is_large a || b) (any_counted forms)

pub is_counted : (earlier : List ProofLine) (counts : Totals) → AreTotals large_count earlier counts → (source : LineSource) → is_from_counted counts source ≡ is_from_large earlier source
is_counted earlier counts are (Given name) = refl
is_counted earlier counts are (Skolemized word) = refl
is_counted earlier counts are (ClauseOf word) = refl
is_counted earlier counts are (Inferred []) = refl
is_counted earlier counts are (Inferred (word ∷ [])) = ap (λ (n : ℕ). nat_lt 0 n) (are.each word) ∙ any_counted (lines_named earlier word)
is_counted earlier counts are (Inferred (word ∷ other ∷ words)) = refl

-- the line of that place
abbrev pub IsSmallAt : List ProofLine → ℕ → ProofLine → Type 0
IsSmallAt lines k line = is_from_large (take k lines) line.source ≡ false

-- ---- what is answered

module _ (lines : List ProofLine) (i : ℕ) where
  pub small_here : (line : ProofLine) (counts : Totals) (found : Bool) → AreTotals large_count (take i lines) counts → found ≡ is_from_counted counts line.source → found ≡ false → IsSmallAt lines i line
  small_here line counts found are is fails = sym (is_counted (take i lines) counts are line.source) ∙ sym is ∙ fails

  pub not_small : (line : ProofLine) (counts : Totals) (found : Bool) → i < length lines → line ≡ get_or lines i line → AreTotals large_count (take i lines) counts → found ≡ is_from_counted counts line.source → found ≡ true → IsTrue false ↔ HaveSmallPremises lines
  not_small line counts found lt at are is holds = (
    λ h. absurd (cc),
    λ h. sym (h i line (slice_get_read lines (length lines) i line refl lt at)) ∙ sym (is_counted (take i lines) counts are line.source) ∙ sym is ∙ holds,
  )

  pub all_small : length lines ≤ i → HoldUpTo (IsSmallAt lines) lines i → IsTrue true ↔ HaveSmallPremises lines
  all_small past all = (λ h. hold_all (IsSmallAt lines) lines i past all, λ h. refl)
