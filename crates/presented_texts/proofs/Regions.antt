-- The part of a text that holds a derivation, where its lines are known.
use Rattle.std.proofs.Common.{◌≡◌, ℕ, suc, ◌+◌, ◌==◌, Bool, true, false, not, List, [], ◌∷◌, ◌++◌, length, take, drop, refl, sym, ◌∙◌, ap, subst, arith, append_assoc, length-append}
use Rattle.std.specs.List.{list_all, prefix_len}
use Rattle.std.proofs.lemmas.Bool.{and_parts, not-true}
use Rattle.std.proofs.lemmas.List.Sums.{sum_by-cons}
use Rattle.tptp_base.specs.Place.{is_no_line_feed}
use Rattle.tptp_base.specs.declared.place.Region.{Region}
use Rattle.szs_report.specs.Lines.{with_byte, lines_of, bytes_in, lines_before, lines_from_first}
use Rattle.szs_report.specs.Marks.{fits}
use Rattle.szs_report.specs.Region.{region_in, region_of}
use Rattle.szs_report.specs.declared.line.LineKind.TheVariants.{Start, End}
use Rattle.derivation_items.specs.Words.{Text}

-- ---- the first line of a text

feed_first : (lines : List Text) → with_byte 10 lines ≡ (10 ∷ []) ∷ lines
feed_first [] = refl
feed_first (line ∷ lines) = refl

other_first : (byte : ℕ) (line : Text) (lines : List Text) → (byte == 10) ≡ false → with_byte byte (line ∷ lines) ≡ (byte ∷ line) ∷ lines
other_first byte line lines is = rw is refl

pub first_line : (front rest : Text) → list_all is_no_line_feed front ≡ true → lines_of (front ++ 10 ∷ rest) ≡ (front ++ 10 ∷ []) ∷ lines_of rest
unfolding lines_of
first_line [] rest all = feed_first (lines_of rest)
first_line (byte ∷ front) rest all =
    let parts = and_parts (is_no_line_feed byte) (list_all is_no_line_feed front) all in
    ap (with_byte byte) (first_line front rest parts.1) ∙ other_first byte (front ++ 10 ∷ []) (lines_of rest) (not-true (byte == 10) parts.0)

no_lines : lines_of [] ≡ []
unfolding lines_of
no_lines = refl

-- ---- lines that do not pass a test

module _ (test : Text → Bool) where
  before_other : (line : Text) (lines : List Text) → test line ≡ false → lines_before test (line ∷ lines) ≡ line ∷ lines_before test lines
  before_other line lines fails =
      let one : 1 + prefix_len (λ l. not (test l)) lines ≡ suc (prefix_len (λ l. not (test l)) lines) = omega arith in
      rw fails (ap (λ n. take n (line ∷ lines)) one)

  from_other : (line : Text) (lines : List Text) → test line ≡ false → lines_from_first test (line ∷ lines) ≡ lines_from_first test lines
  from_other line lines fails =
      let one : 1 + prefix_len (λ l. not (test l)) lines ≡ suc (prefix_len (λ l. not (test l)) lines) = omega arith in
      rw fails (ap (λ n. drop n (line ∷ lines)) one)

  before_this : (line : Text) (lines : List Text) → test line ≡ true → lines_before test (line ∷ lines) ≡ []
  before_this line lines passes = rw passes refl

  from_this : (line : Text) (lines : List Text) → test line ≡ true → lines_from_first test (line ∷ lines) ≡ line ∷ lines
  from_this line lines passes = rw passes refl

-- whole lines, none of which passes
pub data Apart (test : Text → Bool) : Text → Type 0 where
  nothing : Apart test []
  line : (front : Text) {rest : Text} → list_all is_no_line_feed front ≡ true → test (front ++ 10 ∷ []) ≡ false → Apart test rest → Apart test (front ++ 10 ∷ rest)

pub apart_join : {test : Text → Bool} {a b : Text} → Apart test a → Apart test b → Apart test (a ++ b)
apart_join nothing second = second
apart_join {test} {b = b} (line front {rest = rest} free fails first) second =
    subst (Apart test) (sym (append_assoc front (10 ∷ rest) b)) (line front free fails (apart_join first second))

-- before what follows them they are all counted
counted : (test : Text → Bool) {text : Text} (rest : Text) → Apart test text → bytes_in (lines_before test (lines_of (text ++ rest))) ≡ length text + bytes_in (lines_before test (lines_of rest))
counted test rest nothing = omega arith
counted test rest (line front {rest = text} free fails more) =
    let first = front ++ 10 ∷ [] in
    let later = lines_of (text ++ rest) in
    let cut : lines_of ((front ++ 10 ∷ text) ++ rest) ≡ first ∷ later = ap lines_of (append_assoc front (10 ∷ text) rest) ∙ first_line front (text ++ rest) free in
    let all = ap (λ (l : List Text). bytes_in l) (ap (lines_before test) cut ∙ before_other test first later fails) in
    let sum = sum_by-cons length first (lines_before test later) in
    let others = counted test rest more in
    let own : length first ≡ suc (length front) = omega (arith, length-append front (10 ∷ [])) in
    omega (arith, all, sum, others, own, length-append front (10 ∷ text))

-- ---- the part

-- A line that does not begin the part, one that does, lines that do not end it, and one that does.
pub part_found : (one two body three : Text) → list_all is_no_line_feed one ≡ true → fits Start (one ++ 10 ∷ []) ≡ false → list_all is_no_line_feed two ≡ true → fits Start (two ++ 10 ∷ []) ≡ true → Apart (fits End) body
    → list_all is_no_line_feed three ≡ true → fits End (three ++ 10 ∷ []) ≡ true
    → region_of (one ++ 10 ∷ (two ++ 10 ∷ (body ++ (three ++ 10 ∷ [])))) ≡ record { start = length (one ++ 10 ∷ (two ++ 10 ∷ [])); end = length (one ++ 10 ∷ (two ++ 10 ∷ [])) + length body }
part_found one two body three one_free other two_free begins apart three_free ends =
    let rest = body ++ (three ++ 10 ∷ []) in
    let text = one ++ 10 ∷ (two ++ 10 ∷ rest) in
    let l = one ++ 10 ∷ [] in
    let k = two ++ 10 ∷ [] in
    let lines : lines_of text ≡ l ∷ k ∷ lines_of rest = first_line one (two ++ 10 ∷ rest) one_free ∙ ap (λ (ls : List Text). l ∷ ls) (first_line two rest two_free) in
    let before : lines_before (fits Start) (lines_of text) ≡ l ∷ [] =
    ap (lines_before (fits Start)) lines ∙ before_other (fits Start) l (k ∷ lines_of rest) other ∙ ap (λ (ls : List Text). l ∷ ls) (before_this (fits Start) k (lines_of rest) begins) in
    let from : lines_from_first (fits Start) (lines_of text) ≡ k ∷ lines_of rest =
    ap (lines_from_first (fits Start)) lines ∙ from_other (fits Start) l (k ∷ lines_of rest) other ∙ from_this (fits Start) k (lines_of rest) begins in
    let last : lines_before (fits End) (lines_of (three ++ 10 ∷ [])) ≡ [] =
    ap (lines_before (fits End)) (first_line three [] three_free) ∙ before_this (fits End) (three ++ 10 ∷ []) (lines_of []) ends in
    let start = length (one ++ 10 ∷ (two ++ 10 ∷ [])) in
    let at : bytes_in (l ∷ []) + length k ≡ start = omega (arith, sum_by-cons length l [], length-append one (10 ∷ []), length-append two (10 ∷ []), length-append one (10 ∷ (two ++ 10 ∷ []))) in
    let size : bytes_in (lines_before (fits End) (lines_of rest)) ≡ length body = omega (arith, counted (fits End) (three ++ 10 ∷ []) apart, ap (λ (ls : List Text). bytes_in ls) last) in
    let part : ℕ → ℕ → Region = λ n m. record { start = n; end = n + m } in
    ap (λ (ls : List Text). region_in (length text) ls (lines_from_first (fits Start) (lines_of text))) before
    ∙ ap (region_in (length text) (l ∷ [])) from
    ∙ ap (λ n. part n (bytes_in (lines_before (fits End) (lines_of rest)))) at
    ∙ ap (part start) size
