-- How a text is cut into lines from its front.
use Rattle.std.proofs.Common.{◌≡◌, ℕ, zero, suc, ◌+◌, ◌-◌, ◌<◌, ◌≤◌, ◌==◌, Bool, true, false, not, List, [], ◌∷◌, length, take, drop, slice_index, refl, sym, ◌∙◌, ap, subst, arith, length-drop}
use Rattle.std.specs.List.{prefix_len}
use Rattle.std.proofs.lemmas.List.{take_all, drop_all, length-take-le, drop-drop}
use Rattle.std.proofs.lemmas.List.Sums.{sum_by-cons}
use Rattle.szs_report.specs.Lines.{with_byte, lines_of, bytes_in, lines_before, lines_from_first}

pub fails : (b : Bool) → (b ≡ true → ⊥) → b ≡ false
fails true never = absurd (never refl)
fails false never = refl

with_feed : (byte : ℕ) (lines : List (List ℕ)) → (byte == 10) ≡ true → with_byte byte lines ≡ (byte ∷ []) ∷ lines
with_feed byte [] is = refl
with_feed byte (line ∷ lines) is = rw is refl

with_other : (byte : ℕ) (line : List ℕ) (lines : List (List ℕ)) → (byte == 10) ≡ false → with_byte byte (line ∷ lines) ≡ (byte ∷ line) ∷ lines
with_other byte line lines is = rw is refl

pub no_lines : lines_of [] ≡ []
unfolding lines_of
no_lines = refl

-- the first line ends with the first line feed
pub cut_at : (text : List ℕ) (at : ℕ) → at < length text → (slice_index text at == 10) ≡ true → ((k : ℕ) → k < at → (slice_index text k == 10) ≡ true → ⊥) → lines_of text ≡ take (suc at) text ∷ lines_of (drop (suc at) text)
unfolding lines_of
cut_at [] at lt is none = absurd (omega (arith, lt))
cut_at (byte ∷ rest) zero lt is none = with_feed byte (lines_of rest) is
cut_at (byte ∷ rest) (suc at) lt is none =
    ap (with_byte byte) (cut_at rest at (omega (arith, lt)) is (λ k low. none (suc k) (omega (arith, low))))
    ∙ with_other byte (take (suc at) rest) (lines_of (drop (suc at) rest)) (fails (byte == 10) (none 0 (omega arith)))

-- a text without line feeds is one line
pub one_line : (text : List ℕ) → 0 < length text → ((k : ℕ) → k < length text → (slice_index text k == 10) ≡ true → ⊥) → lines_of text ≡ text ∷ []
unfolding lines_of
one_line [] some none = absurd (omega (arith, some))
one_line (byte ∷ []) some none = refl
one_line (byte ∷ next ∷ rest) some none =
    ap (with_byte byte) (one_line (next ∷ rest) (omega arith) (λ k low. none (suc k) (omega (arith, low))))
    ∙ with_other byte (next ∷ rest) [] (fails (byte == 10) (none 0 (omega arith)))

pub cut_at_end : (text : List ℕ) → 0 < length text → ((k : ℕ) → k < length text → (slice_index text k == 10) ≡ true → ⊥) → lines_of text ≡ take (length text) text ∷ lines_of (drop (length text) text)
cut_at_end text some none =
    one_line text some none
    ∙ ap (λ (line : List ℕ). line ∷ []) (sym (take_all (length text) text (omega arith)))
    ∙ ap (λ (lines : List (List ℕ)). take (length text) text ∷ lines) (sym (ap lines_of (drop_all (length text) text (omega arith)) ∙ no_lines))

-- the text from a place on, as the code takes it
abbrev pub rest_of : List ℕ → ℕ → List ℕ
rest_of text before = take (length text - before) (drop before text)

pub rest_is : (text : List ℕ) (before : ℕ) → rest_of text before ≡ drop before text
rest_is text before = take_all (length text - before) (drop before text) (omega (arith, length-drop before text))

-- the first line of a text has so many bytes
abbrev pub IsCut : List ℕ → ℕ → Type 0
IsCut text len = lines_of text ≡ take len text ∷ lines_of (drop len text)

pub cut_rest : (text : List ℕ) (before len : ℕ) → before < length text → (0 < length (rest_of text before) → IsCut (rest_of text before) len) → IsCut (drop before text) len
cut_rest text before len lt cut =
    let some : 0 < length (rest_of text before) = omega (arith, ap length (rest_is text before), length-drop before text) in
    subst (λ (rest : List ℕ). IsCut rest len) (rest_is text before) (cut some)

module _ (test : List ℕ → Bool) where
  before_other : (line : List ℕ) (lines : List (List ℕ)) → test line ≡ false → lines_before test (line ∷ lines) ≡ line ∷ lines_before test lines
  before_other line lines fails_it =
      let one : 1 + prefix_len (λ l. not (test l)) lines ≡ suc (prefix_len (λ l. not (test l)) lines) = omega arith in
      rw fails_it (ap (λ n. take n (line ∷ lines)) one)

  from_other : (line : List ℕ) (lines : List (List ℕ)) → test line ≡ false → lines_from_first test (line ∷ lines) ≡ lines_from_first test lines
  from_other line lines fails_it =
      let one : 1 + prefix_len (λ l. not (test l)) lines ≡ suc (prefix_len (λ l. not (test l)) lines) = omega arith in
      rw fails_it (ap (λ n. drop n (line ∷ lines)) one)

  before_this : (line : List ℕ) (lines : List (List ℕ)) → test line ≡ true → lines_before test (line ∷ lines) ≡ []
  before_this line lines passes = rw passes refl

  from_this : (line : List ℕ) (lines : List (List ℕ)) → test line ≡ true → lines_from_first test (line ∷ lines) ≡ line ∷ lines
  from_this line lines passes = rw passes refl

  -- the first line that is kept passes
  pub first_passes : (lines : List (List ℕ)) (line : List ℕ) (later : List (List ℕ)) → lines_from_first test lines ≡ line ∷ later → test line ≡ true
  first_passes [] line later is = cc
  first_passes (other ∷ lines) line later is = by (test other) refl (first_passes lines line later)
    where
      by : (b : Bool) → test other ≡ b → (lines_from_first test lines ≡ line ∷ later → test line ≡ true) → test line ≡ true
      by true passes more = let same : other ≡ line = cc (sym (from_this other lines passes) ∙ is) in ap test (sym same) ∙ passes
      by false fails_it more = more (sym (from_other other lines fails_it) ∙ is)

  -- The lines of the text's first bytes were looked at, and none of them passes.
  pub record Sought (text : List ℕ) (before : ℕ) : Type 0 where
    pub within : before ≤ length text
    pub counted : bytes_in (lines_before test (lines_of text)) ≡ before + bytes_in (lines_before test (lines_of (drop before text)))
    pub later : lines_from_first test (lines_of text) ≡ lines_from_first test (lines_of (drop before text))

  pub sought_none : (text : List ℕ) → Sought text 0
  sought_none text = record { within = omega arith; counted = omega arith; later = refl }

  -- one line more
  pub sought_more : (text : List ℕ) (before len : ℕ) → lines_of (drop before text) ≡ take len (drop before text) ∷ lines_of (drop len (drop before text)) → len ≤ length (drop before text) → test (take len (drop before text)) ≡ false → Sought text before → Sought text (before + len)
  sought_more text before len cut short fails_it so_far =
      let rest : drop len (drop before text) ≡ drop (before + len) text = drop-drop len before text in
      let own : length (take len (drop before text)) ≡ len = length-take-le len (drop before text) short in
      let here : lines_before test (lines_of (drop before text)) ≡ take len (drop before text) ∷ lines_before test (lines_of (drop (before + len) text)) =
      ap (lines_before test) cut ∙ before_other (take len (drop before text)) (lines_of (drop len (drop before text))) fails_it ∙ ap (λ (t : List ℕ). take len (drop before text) ∷ lines_before test (lines_of t)) rest in
      let there : lines_from_first test (lines_of (drop before text)) ≡ lines_from_first test (lines_of (drop (before + len) text)) =
      ap (lines_from_first test) cut ∙ from_other (take len (drop before text)) (lines_of (drop len (drop before text))) fails_it ∙ ap (λ (t : List ℕ). lines_from_first test (lines_of t)) rest in
      record {
        within = omega (arith, so_far.within, short, length-drop before text);
        counted = omega (arith, so_far.counted, ap bytes_in here, sum_by-cons length (take len (drop before text)) (lines_before test (lines_of (drop (before + len) text))), own);
        later = so_far.later ∙ there;
      }

  -- what is known where the search ends
  pub record Found (text : List ℕ) (before : ℕ) : Type 0 where
    pub value : before ≡ bytes_in (lines_before test (lines_of text))
    pub rest : lines_of (drop before text) ≡ lines_from_first test (lines_of text)
    pub within : before ≤ length text

  pub found_here : (text : List ℕ) (before len : ℕ) → lines_of (drop before text) ≡ take len (drop before text) ∷ lines_of (drop len (drop before text)) → test (take len (drop before text)) ≡ true → Sought text before → Found text before
  found_here text before len cut passes so_far =
      let here : lines_before test (lines_of (drop before text)) ≡ [] = ap (lines_before test) cut ∙ before_this (take len (drop before text)) (lines_of (drop len (drop before text))) passes in
      record {
        value = omega (arith, so_far.counted, ap bytes_in here);
        rest = cut ∙ sym (from_this (take len (drop before text)) (lines_of (drop len (drop before text))) passes) ∙ ap (lines_from_first test) (sym cut) ∙ sym so_far.later;
        within = so_far.within;
      }

  pub found_none : (text : List ℕ) (before : ℕ) → length text ≤ before → Sought text before → Found text before
  found_none text before all so_far =
      let none : lines_of (drop before text) ≡ [] = ap lines_of (drop_all before text all) ∙ no_lines in
      record {
        value = omega (arith, so_far.counted, ap (λ ls. bytes_in (lines_before test ls)) none);
        rest = none ∙ ap (lines_from_first test) (sym none) ∙ sym so_far.later;
        within = so_far.within;
      }

  pub sought_next : (text : List ℕ) (before len : ℕ) → before < length text → (0 < length (rest_of text before) → IsCut (rest_of text before) len) → len ≤ length (rest_of text before) → test (take len (rest_of text before)) ≡ false → Sought text before → Sought text (before + len)
  sought_next text before len lt cut short fails_it so_far =
      sought_more text before len (cut_rest text before len lt cut) (subst (λ (rest : List ℕ). len ≤ length rest) (rest_is text before) short) (subst (λ (rest : List ℕ). test (take len rest) ≡ false) (rest_is text before) fails_it) so_far

  pub found_next : (text : List ℕ) (before len : ℕ) → before < length text → (0 < length (rest_of text before) → IsCut (rest_of text before) len) → test (take len (rest_of text before)) ≡ true → Sought text before → Found text before
  found_next text before len lt cut passes so_far =
      found_here text before len (cut_rest text before len lt cut) (subst (λ (rest : List ℕ). test (take len rest) ≡ true) (rest_is text before) passes) so_far
