-- Room for a line, by tables of what the given formulas and those of the lines before may bring in.
use Rattle.std.specs.Prelude.{ℕ, ◌≡◌, ◌+◌, ◌-◌, ◌^◌, ◌≤◌, ◌<◌, ◌↔◌, min, Bool, true, false, IsTrue, if◌then◌else◌, List, [], ◌∷◌, ◌++◌, get_or, length, map, sum, take, refl}
use Rattle.std.specs.List.{flat_map}
use Rattle.std.proofs.Common.{ap, sym, ◌∙◌, arith}
use Rattle.std.proofs.lemmas.Option.{slice_get_read}
use Rattle.fof_terms.specs.declared.form.Form.{Form, Not}
use Rattle.clause_form.proofs.SizeLaws.{sum_cons}
use Rattle.sort_check.specs.declared.line.GivenEntry.{GivenEntry}
use Rattle.step_clauses.specs.Room.{wanted}
use Rattle.derivation_items.specs.Words.{Text}
use Rattle.derivation_items.specs.declared.line.LineSource.{LineSource}
use Rattle.derivation_items.specs.declared.line.LineSource.TheVariants.{Given, Skolemized, ClauseOf, Inferred}
use Rattle.derivation_items.specs.declared.line.ProofLine.{ProofLine}
use Rattle.derivation_limits.specs.Names.{total_of_name}
use Rattle.derivation_limits.specs.Totals.{capped, total_of}
use Rattle.derivation_limits.specs.declared.totals.Totals.{Totals}
use Rattle.limited_items.specs.declared.wanted.Wanted.{Wanted}
use Rattle.limited_items.specs.Room.{HasRoomBehind, HaveRoom}
use Rattle.limited_items.specs.Sources.{forms_given, given_named, is_unknown, lines_named, source_forms}
use Rattle.limited_items.specs.code.Amounts.{AreWanted, total, wanted_by}
use Rattle.limited_items.proofs.AmountFacts.{AreTotals, total_append}
use Rattle.limited_items.proofs.PlaceFacts.{HoldUpTo, hold_all}

-- the line of that place, behind those before it
abbrev pub HasRoomAt : ℕ → List GivenEntry → List ProofLine → ℕ → ProofLine → Type 0
HasRoomAt symbols given lines k line = HasRoomBehind symbols given (take k lines) line

joined : (most own exact others rest : ℕ) → own ≡ min exact most → min others most ≡ min rest most → min (own + others) most ≡ min (exact + rest) most
joined most own exact others rest is same = omega arith

either : (b : Bool) (m n : ℕ) (as_ bs : List Form) → m ≡ capped (total wanted as_) → n ≡ capped (total wanted bs) → (if b then m else n) ≡ capped (total wanted (if b then as_ else bs))
either true m n as_ bs em en = em
either false m n as_ bs em en = en

one_wants : (a : Form) → total wanted (a ∷ []) ≡ wanted a
one_wants a = let one = sum_cons (wanted a) [] in omega (arith, one)

room_by : (most symbols amount exact own whole : ℕ) → 16777216 < most → amount ≡ min exact most → whole ≡ exact + own → (symbols + (amount + own) ≤ 16777216) ↔ (symbols + whole ≤ 16777216)
room_by most symbols amount exact own whole large is both = (λ h. omega arith, λ h. omega arith)

module _ (given : List GivenEntry) (earlier : List ProofLine) (by_given : Wanted) (by_lines : Totals) (are_wanted : AreWanted given by_given) (are_totals : AreTotals wanted earlier by_lines) where
  in_all : (words : List Text) → capped (sum (map (total_of by_lines) words)) ≡ capped (total wanted (flat_map (lines_named earlier) words))
  in_all [] = refl
  in_all (word ∷ words) =
      ap capped (sum_cons (total_of by_lines word) (map (total_of by_lines) words))
      ∙ joined (2 ^ 64 - 1) (total_of by_lines word) (total wanted (lines_named earlier word)) (sum (map (total_of by_lines) words)) (total wanted (flat_map (lines_named earlier) words)) (are_totals.each word) (in_all words)
      ∙ ap capped (sym (total_append wanted (lines_named earlier word) (flat_map (lines_named earlier) words)))

  source_wants : (source : LineSource) → wanted_by by_given by_lines source ≡ capped (total wanted (source_forms given earlier source))
  source_wants (Given name) = either (is_unknown name) by_given.all (total_of_name by_given.names name) (forms_given given) (given_named given name) are_wanted.all (are_wanted.each name)
  source_wants (Skolemized word) = are_totals.each word
  source_wants (ClauseOf word) = are_totals.each word
  source_wants (Inferred words) = in_all words

  pub room_is : (symbols : ℕ) (line : ProofLine) → (symbols + (wanted_by by_given by_lines line.source + wanted (Not line.form)) ≤ 16777216) ↔ HasRoomBehind symbols given earlier line
  room_is symbols line =
      room_by (2 ^ 64 - 1) symbols (wanted_by by_given by_lines line.source) (total wanted (source_forms given earlier line.source)) (wanted (Not line.form)) (total wanted (source_forms given earlier line.source ++ Not line.form ∷ [])) (omega arith) (source_wants line.source)
      (total_append wanted (source_forms given earlier line.source) (Not line.form ∷ []) ∙ ap (λ (n : ℕ). total wanted (source_forms given earlier line.source) + n) (one_wants (Not line.form)))

-- ---- what is answered

module _ (symbols : ℕ) (given : List GivenEntry) (lines : List ProofLine) (i : ℕ) where
  pub no_room : {Small : Type 0} (line : ProofLine) (has : Bool) → i < length lines → line ≡ get_or lines i line → (IsTrue has ↔ Small) → (Small ↔ HasRoomAt symbols given lines i line) → has ≡ false → IsTrue false ↔ HaveRoom symbols given lines
  no_room line has lt is told same fails = (
    λ h. absurd (cc),
    λ h. sym fails ∙ told.1 (same.1 (h i line (slice_get_read lines (length lines) i line refl lt is))),
  )

  pub all_room : length lines ≤ i → HoldUpTo (HasRoomAt symbols given lines) lines i → IsTrue true ↔ HaveRoom symbols given lines
  all_room past all = (λ h. hold_all (HasRoomAt symbols given lines) lines i past all, λ h. refl)
