-- Items of lines within the limits, and limits that are passed.
use Rattle.std.specs.Prelude.{ℕ, ◌≡◌, ◌+◌, ◌-◌, ◌^◌, ◌<◌, ◌≤◌, ◌↔◌, min, Bool, true, false, IsTrue, List, [], ◌∷◌, ◌++◌, length, Result, Ok, Err, IfErr, IsErrAnd, get_or, refl}
use Rattle.std.specs.List.{AllZip}
use Rattle.std.proofs.Common.{ap, sym, subst, ◌∙◌, arith, suc, lt_of_not-le}
use Rattle.std.proofs.lemmas.Option.{slice_get_read}
use Rattle.tptp_base.specs.declared.limit.LimitName.{LimitName}
use Rattle.tptp_base.specs.declared.limit.LimitName.TheVariants.{FileSize, TotalSize, IncludeDepth, Nesting, Variables, Lines, Symbols, Sorts}
use Rattle.tptp_base.specs.declared.item.Item.{Item}
use Rattle.tptp_base.specs.declared.item.Typing.{Typing}
use Rattle.tptp_base.specs.declared.surface.Surface.{Surface}
use Rattle.fof_terms.specs.Vocabulary.{Vocabulary}
use Rattle.fof_terms.specs.Sizes.{form_size}
use Rattle.sort_check.specs.declared.line.GivenEntry.{GivenEntry}
use Rattle.derivation_items.specs.Items.{line_item_of, typing_items}
use Rattle.derivation_items.specs.Typings.{typings_of}
use Rattle.derivation_items.specs.Words.{Text}
use Rattle.derivation_items.specs.declared.line.ProofLine.{ProofLine}
use Rattle.derivation_limits.specs.Nesting.{nesting_of}
use Rattle.limited_items.specs.declared.fault.ProveFault.{ProveFault}
use Rattle.limited_items.specs.declared.fault.ProveFault.TheVariants.{Limit, Memory}
use Rattle.limited_items.specs.Limits.{AreWithin, IfLimit, IsLineOver, IsOver, IsSomeOver, formula_count}
use Rattle.limited_items.specs.Printed.{IsPrinted, Writes}
use Rattle.limited_items.specs.Room.{HaveRoom}

-- ---- faults that are handed on

hand_on : {T : Type 0} (P : LimitName → Type 0) (result : Result T ProveFault) (cause : ProveFault) → IsErrAnd result (λ c. c ≡ cause) → IfLimit P cause → IfErr result (IfLimit P)
hand_on P (Ok value) cause same h = absurd same
hand_on P (Err fault) cause same h = subst (IfLimit P) (sym same) h

weaker : (P Q : LimitName → Type 0) → ((name : LimitName) → P name → Q name) → (fault : ProveFault) → IfLimit P fault → IfLimit Q fault
weaker P Q f (Limit name) h = f name h
weaker P Q f Memory h = tt

line_over : (v : Vocabulary) (lines : List ProofLine) (i : ℕ) (line : ProofLine) → i < length lines → line ≡ get_or lines i line → (name : LimitName) → IsLineOver v line name → IsSomeOver v lines name
line_over v lines i line lt is name over = (i, line, slice_get_read lines (length lines) i line refl lt is, over)

some_over : (v : Vocabulary) (first : ℕ) (given : List GivenEntry) (lines : List ProofLine) (name : LimitName) → IsSomeOver v lines name → IsOver v first given lines name
some_over v first given lines Variables over = over
some_over v first given lines Nesting over = over
some_over v first given lines Lines over = absurd over.3
some_over v first given lines Symbols over = absurd over.3
some_over v first given lines FileSize over = over.3
some_over v first given lines TotalSize over = over.3
some_over v first given lines IncludeDepth over = over.3
some_over v first given lines Sorts over = over.3

pub of_line : {T : Type 0} (v : Vocabulary) (lines : List ProofLine) (i : ℕ) (line : ProofLine) (result : Result T ProveFault) (cause : ProveFault) → i < length lines → line ≡ get_or lines i line → IsErrAnd result (λ c. c ≡ cause) → IfLimit (IsLineOver v line) cause → IfErr result (IfLimit (IsSomeOver v lines))
of_line v lines i line result cause lt is same h = hand_on (IsSomeOver v lines) result cause same (weaker (IsLineOver v line) (IsSomeOver v lines) (line_over v lines i line lt is) cause h)

pub of_lines : {T : Type 0} (v : Vocabulary) (first : ℕ) (given : List GivenEntry) (lines : List ProofLine) (result : Result T ProveFault) (cause : ProveFault) → IsErrAnd result (λ c. c ≡ cause) → IfLimit (IsSomeOver v lines) cause → IfErr result (IfLimit (IsOver v first given lines))
of_lines v first given lines result cause same h = hand_on (IsOver v first given lines) result cause same (weaker (IsSomeOver v lines) (IsOver v first given lines) (some_over v first given lines) cause h)

-- ---- one line

pub printed : (file : Text) (v : Vocabulary) (line : ProofLine) (formula : Surface) (item : Item) (word : Text) (count : ℕ) → Writes v line.form formula → count ≡ min (form_size line.form).variables (2 ^ 64 - 1) → count ≤ 250 → nesting_of formula ≤ 250 → word ≡ line.name
    → item ≡ line_item_of file word formula line.source → IsPrinted file v line item
printed file v line formula item word count writes is few flat named made = record {
  formula = formula;
  writes = writes;
  few_variables = omega arith;
  flat = flat;
  is = made ∙ ap (λ (w : Text). line_item_of file w formula line.source) named;
}

pub deep : (n : ℕ) → (n ≤ 250 → IsTrue false) → 250 < n
deep n told = lt_of_not-le (λ (h : n ≤ 250). let e : false ≡ true = told h in cc)

-- ---- the number of formulas

typing_count : (k : ℕ) (typings : List Typing) → length (typing_items k typings) ≡ length typings
typing_count k [] = refl
typing_count k (typing ∷ typings) = ap suc (typing_count (k + 1) typings)

module _ (v : Vocabulary) (first : ℕ) (lines : List ProofLine) (items : List Item) (count : ℕ) (are : items ≡ typing_items 0 (typings_of v first)) (is : count ≡ min (length items + length lines) (2 ^ 64 - 1)) where
  typings : length items ≡ length (typings_of v first)
  typings = ap (λ (is_ : List Item). length is_) are ∙ typing_count 0 (typings_of v first)

  pub lines_over : 1048576 < count → 1048576 < formula_count v first lines
  lines_over more = let same = typings in omega arith

  pub within : (file : Text) (given : List GivenEntry) (own whole : List Item) → count ≤ 1048576 → AllZip (IsPrinted file v) lines own → whole ≡ items ++ own → HaveRoom (length v.symbols) given lines → AreWithin file v first given lines whole
  within file given own whole less each joined room = record {
    few = let same = typings in omega arith;
    printed = record { of_lines = own; each = each; are = joined ∙ ap (λ (is_ : List Item). is_ ++ own) are };
    room = room;
  }

-- ---- room

module _ (v : Vocabulary) (given : List GivenEntry) (lines : List ProofLine) (symbols : ℕ) (room : Bool) (count : symbols ≡ length v.symbols) (told : IsTrue room ↔ HaveRoom symbols given lines) where
  pub symbols_over : room ≡ false → HaveRoom (length v.symbols) given lines → ⊥
  symbols_over fails has = let holds : room ≡ true = told.1 (subst (λ (n : ℕ). HaveRoom n given lines) (sym count) has) in cc

  pub symbols_within : room ≡ true → HaveRoom (length v.symbols) given lines
  symbols_within holds = subst (λ (n : ℕ). HaveRoom n given lines) count (told.0 holds)
