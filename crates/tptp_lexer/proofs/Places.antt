-- Lines and columns of a later place.
use Rattle.std.proofs.Common.{◌≡◌, ℕ, zero, suc, ◌+◌, ◌-◌, ◌<◌, ◌≤◌, ◌==◌, Bool, true, false, not, [], ◌∷◌, ◌++◌, length, take, drop, reverse, if◌then◌else◌, Some, None, get_or, refl, sym, ◌∙◌, ap, subst, arith, length-take, count_by}
use Rattle.std.specs.List.{suffix_len, prefix_len}
use Rattle.std.proofs.lemmas.Bool.{eq-eqb, ne_eqb, false_from_ne_true, cond-true, cond-false}
use Rattle.std.proofs.lemmas.List.{reverse-append, length-reverse}
use Rattle.std.proofs.lemmas.List.Folds.{prefix_len-append}
use Rattle.std.proofs.lemmas.List.Sums.{suffix_len_is, suffix_len-le-length, sum_by-append, count_by-le-length}
use Rattle.std.proofs.Math.Seq.{take-add}
use Rattle.memchr.specs.Find.{IsLastByte, is_byte}
use Rattle.tptp_base.specs.declared.place.Place.{Place}
use Rattle.tptp_base.specs.Place.{place_of, is_line_feed, is_no_line_feed}
use Rattle.tptp_lexer.specs.Bytes.{Text}
use Rattle.tptp_lexer.proofs.Runs.{not_true}

-- ---- the last line feed of a piece

behind_last : (piece : Text) (at : ℕ) → IsLastByte (is_byte 10) piece (Some at) → suffix_len is_no_line_feed piece ≡ length piece - (at + 1)
behind_last piece at last =
    let high : at < length piece = last.0.high in
    suffix_len_is is_no_line_feed piece (at + 1) 0 (omega (arith, high)) (λ k low within. not_true (get_or piece k 0 == 10) (last.0.after k low within)) (λ some. let same : at + 1 - 1 ≡ at = omega arith in subst (λ i. not (get_or piece i 0 == 10) ≡ false) (sym same) (ap not last.1))

no_last : (piece : Text) → IsLastByte (is_byte 10) piece None → suffix_len is_no_line_feed piece ≡ length piece
no_last piece last =
    suffix_len_is is_no_line_feed piece 0 0 (omega arith) (λ k low within. not_true (get_or piece k 0 == 10) (last k low within)) (λ some. absurd (omega (arith, some))) ∙ omega arith

pub count_none : (piece : Text) → ((k : ℕ) → k < length piece → get_or piece k 0 == 10 ≡ true → ⊥) → count_by is_line_feed piece ≡ 0
count_none [] h = refl
count_none (byte ∷ piece) h =
    let other : byte == 10 ≡ false = false_from_ne_true (byte == 10) (h 0 (omega arith)) in
    let rest = count_none piece (λ k lt. h (suc k) (omega arith)) in
    rw other (omega arith)

count_head : (byte : ℕ) (z : Text) → count_by is_line_feed (byte ∷ z) ≡ count_by is_line_feed (byte ∷ []) + count_by is_line_feed z
count_head byte z = sum_by-append (λ (x : ℕ). if is_line_feed x then 1 else 0) (byte ∷ []) z

-- those behind the first are one less
pub count_behind : (z : Text) (at : ℕ) → at < length z → ((j : ℕ) → j < at → get_or z j 0 == 10 ≡ true → ⊥) → get_or z at 0 == 10 ≡ true → count_by is_line_feed z ≡ 1 + count_by is_line_feed (drop (at + 1) z)
count_behind [] at lt h e = absurd (omega (arith, lt))
count_behind (byte ∷ z) zero lt h e =
    let one : count_by is_line_feed (byte ∷ []) ≡ 1 = ap (λ (b : Bool). 0 + (if b then 1 else 0)) e in
    omega (arith, count_head byte z, one)
count_behind (byte ∷ z) (suc at) lt h e =
    let other : byte == 10 ≡ false = false_from_ne_true (byte == 10) (h 0 (omega arith)) in
    let none : count_by is_line_feed (byte ∷ []) ≡ 0 = ap (λ (b : Bool). 0 + (if b then 1 else 0)) other in
    let rest = count_behind z at (omega (arith, lt)) (λ j less. h (suc j) (omega (arith, less))) e in
    let same : suc at + 1 ≡ suc (at + 1) = omega arith in
    let moved : count_by is_line_feed (drop (suc at + 1) (byte ∷ z)) ≡ count_by is_line_feed (drop (at + 1) z) = ap (λ n. count_by is_line_feed (drop n (byte ∷ z))) same in
    omega (arith, count_head byte z, none, rest, moved)

-- ---- a piece behind a text

suffix-append : (p : ℕ → Bool) (xs ys : Text) → suffix_len p (xs ++ ys) ≡ (if suffix_len p ys == length ys then length ys + suffix_len p xs else suffix_len p ys)
suffix-append p xs ys =
    ap (prefix_len p) (reverse-append xs ys) ∙ prefix_len-append p (reverse ys) (reverse xs)
    ∙ ap (λ n. if suffix_len p ys == n then n + suffix_len p xs else suffix_len p ys) (length-reverse ys)

column_same : (xs ys : Text) → suffix_len is_no_line_feed ys ≡ length ys → suffix_len is_no_line_feed (xs ++ ys) ≡ suffix_len is_no_line_feed xs + length ys
column_same xs ys h = suffix-append is_no_line_feed xs ys ∙ cond-true (suffix_len is_no_line_feed ys == length ys) _ _ (eq-eqb (suffix_len is_no_line_feed ys) (length ys) h) ∙ omega arith

column_new : (xs ys : Text) → suffix_len is_no_line_feed ys < length ys → suffix_len is_no_line_feed (xs ++ ys) ≡ suffix_len is_no_line_feed ys
column_new xs ys h = suffix-append is_no_line_feed xs ys ∙ cond-false (suffix_len is_no_line_feed ys == length ys) _ _ (ne_eqb (suffix_len is_no_line_feed ys) (length ys) (λ e. (omega arith)))

place_parts : (file offset a b c d : ℕ) → a ≡ b → c ≡ d → ◌≡◌ {A = Place} (record { file = file; offset = offset; line = a; column = c }) (record { file = file; offset = offset; line = b; column = d })
place_parts file offset a b c d e f =
    ap (λ (n : ℕ). let r : Place = record { file = file; offset = offset; line = n; column = c } in r) e ∙ ap (λ (n : ℕ). let r : Place = record { file = file; offset = offset; line = b; column = n } in r) f

module _ (text : Text) (place : Place) (to : ℕ) (placed : place ≡ place_of place.file text place.offset) (ordered : place.offset ≤ to) where
  all_is : take to text ≡ take place.offset text ++ take (to - place.offset) (drop place.offset text)
  all_is = let count : to ≡ place.offset + (to - place.offset) = omega arith in ap (λ n. take n text) count ∙ take-add place.offset (to - place.offset) text

  lines_are : count_by is_line_feed (take to text) ≡ count_by is_line_feed (take place.offset text) + count_by is_line_feed (take (to - place.offset) (drop place.offset text))
  lines_are = ap (count_by is_line_feed) all_is ∙ sum_by-append (λ (x : ℕ). if is_line_feed x then 1 else 0) (take place.offset text) (take (to - place.offset) (drop place.offset text))

  line_is : place.line ≡ count_by is_line_feed (take place.offset text) + 1
  line_is = ap (λ (p : Place). p.line) placed

  column_is : place.column ≡ suffix_len is_no_line_feed (take place.offset text) + 1
  column_is = ap (λ (p : Place). p.column) placed

  pub column_fits : place.column ≤ place.offset + 1
  column_fits = omega (arith, column_is, suffix_len-le-length is_no_line_feed (take place.offset text), length-take place.offset text)

  pub line_fits : place.line ≤ place.offset + 1
  line_fits = omega (arith, line_is, count_by-le-length is_line_feed (take place.offset text), length-take place.offset text)

  pub piece_fits : length (take (to - place.offset) (drop place.offset text)) ≤ to - place.offset
  piece_fits = omega (arith, length-take (to - place.offset) (drop place.offset text))

  pub same_line : (piece : Text) → piece ≡ take (to - place.offset) (drop place.offset text) → IsLastByte (is_byte 10) piece None
      → ◌≡◌ {A = Place} (record { file = place.file; offset = to; line = place.line; column = place.column + length piece }) (place_of place.file text to)
  same_line piece is last =
      place_parts place.file to _ _ _ _
      (omega (arith, line_is, lines_are, count_none piece (λ k lt. last k (omega arith) lt), ap (count_by is_line_feed) is))
      (omega (arith, column_is, ap (suffix_len is_no_line_feed) all_is, column_same (take place.offset text) piece (no_last piece last), ap (λ z. suffix_len is_no_line_feed (take place.offset text ++ z)) is))

  pub new_line : (piece : Text) (at : ℕ) → piece ≡ take (to - place.offset) (drop place.offset text) → IsLastByte (is_byte 10) piece (Some at) → (feeds : ℕ) → feeds ≡ count_by is_line_feed piece
      → ◌≡◌ {A = Place} (record { file = place.file; offset = to; line = place.line + feeds; column = length piece - at }) (place_of place.file text to)
  new_line piece at is last feeds e =
      let high : at < length piece = last.0.high in
      let behind = behind_last piece at last in
      place_parts place.file to _ _ _ _
      (omega (arith, line_is, lines_are, e, ap (count_by is_line_feed) is))
      (omega (arith, ap (suffix_len is_no_line_feed) all_is, column_new (take place.offset text) piece (omega arith), ap (λ z. suffix_len is_no_line_feed (take place.offset text ++ z)) is))
