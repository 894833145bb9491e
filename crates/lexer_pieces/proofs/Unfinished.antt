-- What a text is behind which the spelling of a token goes on: a token too, or open, or one of a few beginnings.
use Rattle.std.specs.Prelude.{ℕ, ◌≡◌, ◌≤◌, true, [], ◌∷◌, ◌++◌, length, refl}
use Rattle.std.specs.List.{list_all}
use Rattle.std.proofs.Common.{ap, sym, ◌∙◌, subst, arith, append_assoc, ◌⊎◌, inl, inr}
use Rattle.std.proofs.lemmas.List.{append-nil}
use Rattle.tptp_base.specs.Place.{is_no_line_feed}
use Rattle.tptp_lexer.specs.declared.style.Style.{Style}
use Rattle.tptp_lexer.specs.declared.token.Mark.{Mark}
use Rattle.tptp_lexer.specs.declared.token.Mark.TheVariants as m
use Rattle.tptp_lexer.specs.declared.token.Token.{Token}
use Rattle.tptp_lexer.specs.declared.token.Token.TheVariants as t
use Rattle.tptp_lexer.specs.Answer.{IsOpen}
use Rattle.tptp_lexer.specs.Bytes.{Text, is_alpha_numeric, is_lower_alpha, is_upper_alpha}
use Rattle.tptp_lexer.specs.Comments.{HasNoEnd, begins_comment}
use Rattle.tptp_lexer.specs.Marks.{mark_text}
use Rattle.tptp_lexer.specs.Numbers.{IsNumber}
use Rattle.tptp_lexer.specs.Quotes.{IsWritten, nothing, plain, escaped, IsOpenQuote}
use Rattle.tptp_lexer.specs.Spelled.{Spelled, lower_word, upper_word, dollar_word, dollar_dollar_word, single_quoted, distinct_object, number, comment_line, comment_block, mark}
use Rattle.lexer_pieces.specs.code.Settling.{may_grow, begins_tail}
use Rattle.lexer_pieces.proofs.Parting.{empty_parts, without_last, all_front, one_at_front, two_at_front, three_at_front}
use Rattle.lexer_pieces.proofs.Tails.{BeginsNumber, is_number, is_sign_alone, is_tail, number_begun}

pub data Unfinished (style : Style) : Text → Type 0 where
  is_token : {text : Text} (token : Token) → Spelled style token text → Unfinished style text
  is_open : {text : Text} → IsOpen text → Unfinished style text
  is_begun : {text : Text} → may_grow text ≡ true → Unfinished style text
  has_tail : {text : Text} (digits tail : Text) → IsNumber digits → begins_tail tail ≡ true → text ≡ digits ++ tail → Unfinished style text

-- ---- quotes

-- written characters, of which the last may be a `\` alone
abbrev pub IsHalfWritten : ℕ → Text → Type 0
IsHalfWritten quote text = (chars : Text) × (written : Text) × IsWritten quote chars written × ((text ≡ written) ⊎ (text ≡ written ++ 92 ∷ []))

half_plain : (quote char : ℕ) (text : Text) → ((chars written : Text) → IsWritten quote chars written → IsWritten quote (char ∷ chars) (char ∷ written)) → IsHalfWritten quote text → IsHalfWritten quote (char ∷ text)
half_plain quote char text more (chars, written, is, inl e) = (char ∷ chars, char ∷ written, more chars written is, inl (ap (λ z. char ∷ z) e))
half_plain quote char text more (chars, written, is, inr e) = (char ∷ chars, char ∷ written, more chars written is, inr (ap (λ z. char ∷ z) e))

half_escaped : (quote char : ℕ) (text : Text) → ((chars written : Text) → IsWritten quote chars written → IsWritten quote (char ∷ chars) (92 ∷ char ∷ written)) → IsHalfWritten quote text → IsHalfWritten quote (92 ∷ char ∷ text)
half_escaped quote char text more (chars, written, is, inl e) = (char ∷ chars, 92 ∷ char ∷ written, more chars written is, inl (ap (λ z. 92 ∷ char ∷ z) e))
half_escaped quote char text more (chars, written, is, inr e) = (char ∷ chars, 92 ∷ char ∷ written, more chars written is, inr (ap (λ z. 92 ∷ char ∷ z) e))

pub half_written : (quote : ℕ) {chars written : Text} → IsWritten quote chars written → (text more : Text) → written ≡ text ++ more → IsHalfWritten quote text
half_written quote nothing text more same = ([], [], nothing, inl (empty_parts text more (sym same)).0)
half_written quote (plain p is) [] more same = ([], [], nothing, inl refl)
half_written quote (plain {char = char} {written = written} p is) (x ∷ xs) more same =
    let heads : char ≡ x = cc in
    let tails : written ≡ xs ++ more = cc in
    subst (λ c. IsHalfWritten quote (c ∷ xs)) heads (half_plain quote char xs (λ chars written' w. plain p w) (half_written quote is xs more tails))
half_written quote (escaped p is) [] more same = ([], [], nothing, inl refl)
half_written quote (escaped p is) (x ∷ []) more same = ([], [], nothing, inr (cc))
half_written quote (escaped {char = char} {written = written} p is) (x ∷ y ∷ ys) more same =
    let first : x ≡ 92 = cc in
    let heads : char ≡ y = cc in
    let tails : written ≡ ys ++ more = cc in
    subst (λ c. IsHalfWritten quote (c ∷ y ∷ ys)) (sym first) (subst (λ c. IsHalfWritten quote (92 ∷ c ∷ ys)) heads (half_escaped quote char ys (λ chars written' w. escaped p w) (half_written quote is ys more tails)))

pub open_by : (quote : ℕ) (text : Text) → IsHalfWritten quote text → IsOpenQuote quote (quote ∷ text)
open_by quote text (chars, written, is, inl e) = record { chars = chars; written = written; is_written = is; is_text = inl (ap (λ z. quote ∷ z) e) }
open_by quote text (chars, written, is, inr e) = record { chars = chars; written = written; is_written = is; is_text = inr (ap (λ z. quote ∷ z) e) }

-- the beginning of a quoted token is the whole or open
quote_begun : (style : Style) (quote : ℕ) (token : Token) {chars written : Text} → IsWritten quote chars written → Spelled style token (quote ∷ (written ++ quote ∷ [])) → ((z : Text) → IsOpenQuote quote z → IsOpen z) → (text more : Text) → quote ∷ (written ++ quote ∷ []) ≡ text ++ more → 1 ≤ length text → Unfinished style text
quote_begun style quote token is spelled opens [] more same some = absurd (omega arith)
quote_begun style quote token {written = written} is spelled opens (x ∷ xs) [] same some =
    is_token token (subst (Spelled style token) (same ∙ append-nil (x ∷ xs)) spelled)
quote_begun style quote token {written = written} is spelled opens (x ∷ xs) (y ∷ ys) same some =
    let heads : quote ≡ x = cc in
    let tails : xs ++ (y ∷ ys) ≡ written ++ quote ∷ [] = cc in
    let (fewer, all) = without_last xs (y ∷ ys) written quote tails (omega arith) in
    subst (λ c. Unfinished style (c ∷ xs)) heads (is_open (opens (quote ∷ xs) (open_by quote xs (half_written quote is xs fewer (sym all)))))

-- ---- comments and marks

block_clean : (body text fewer : Text) → HasNoEnd (body ++ 42 ∷ []) → text ++ fewer ≡ body ++ 42 ∷ [] → HasNoEnd text
block_clean body text fewer clean same before after is =
    clean before (after ++ fewer) (sym same ∙ ap (λ z. z ++ fewer) is ∙ append_assoc before (42 ∷ 47 ∷ after) fewer)

block_begun : (style : Style) (body : Text) → HasNoEnd (body ++ 42 ∷ []) → (text more : Text) → 47 ∷ 42 ∷ (body ++ 42 ∷ 47 ∷ []) ≡ text ++ more → 1 ≤ length text → Unfinished style text
block_begun style body clean [] more same some = absurd (omega arith)
block_begun style body clean (x ∷ []) more same some = let is : x ≡ 47 = cc in is_begun (subst (λ c. may_grow (c ∷ []) ≡ true) (sym is) refl)
block_begun style body clean (x ∷ y ∷ ys) [] same some =
    is_token (t.Comment (47 ∷ 42 ∷ (body ++ 42 ∷ 47 ∷ []))) (subst (Spelled style (t.Comment (47 ∷ 42 ∷ (body ++ 42 ∷ 47 ∷ [])))) (same ∙ append-nil (x ∷ y ∷ ys)) (comment_block body clean))
block_begun style body clean (x ∷ y ∷ ys) (z ∷ zs) same some =
    let first : x ≡ 47 = cc in
    let second : y ≡ 42 = cc in
    let tails : ys ++ (z ∷ zs) ≡ body ++ 42 ∷ 47 ∷ [] = cc in
    let (fewer, all) = without_last ys (z ∷ zs) (body ++ 42 ∷ []) 47 (tails ∙ sym (append_assoc body (42 ∷ []) (47 ∷ []))) (omega arith) in
    let text : x ∷ y ∷ ys ≡ 47 ∷ 42 ∷ ys = cc in
    is_open (inr (inr (record { body = ys; has_no_end = block_clean body ys fewer clean all; is_text = text })))

module _ (style : Style) (text more : Text) (some : 1 ≤ length text) where
  one_byte : (sign : Mark) (a : ℕ) → mark_text sign ≡ a ∷ [] → mark_text sign ≡ text ++ more → Unfinished style text
  one_byte sign a is same = let whole : text ≡ mark_text sign = one_at_front a text more (sym is ∙ same) some ∙ sym is in is_token (t.Mark sign) (subst (Spelled style (t.Mark sign)) (sym whole) (mark sign))

  two_bytes : (sign shorter : Mark) (a b : ℕ) → mark_text sign ≡ a ∷ b ∷ [] → mark_text shorter ≡ a ∷ [] → mark_text sign ≡ text ++ more → Unfinished style text
  two_bytes sign shorter a b is less same = elim (two_at_front a b text more (sym is ∙ same) some) [
    | inl e ↦ is_token (t.Mark shorter) (subst (Spelled style (t.Mark shorter)) (less ∙ sym e) (mark shorter))
    | inr e ↦ is_token (t.Mark sign) (subst (Spelled style (t.Mark sign)) (is ∙ sym e) (mark sign))
  ]

  begun_at : (start : Text) → may_grow start ≡ true → text ≡ start → Unfinished style text
  begun_at start grows e = is_begun (ap may_grow e ∙ grows)

  token_at : (sign : Mark) → text ≡ mark_text sign → Unfinished style text
  token_at sign e = is_token (t.Mark sign) (subst (Spelled style (t.Mark sign)) (sym e) (mark sign))

  mark_begun : (sign : Mark) → mark_text sign ≡ text ++ more → Unfinished style text
  mark_begun m.Open same = one_byte m.Open 40 refl same
  mark_begun m.Close same = one_byte m.Close 41 refl same
  mark_begun m.OpenList same = one_byte m.OpenList 91 refl same
  mark_begun m.CloseList same = one_byte m.CloseList 93 refl same
  mark_begun m.Comma same = one_byte m.Comma 44 refl same
  mark_begun m.Dot same = one_byte m.Dot 46 refl same
  mark_begun m.Colon same = one_byte m.Colon 58 refl same
  mark_begun m.Bang same = one_byte m.Bang 33 refl same
  mark_begun m.Question same = one_byte m.Question 63 refl same
  mark_begun m.Tilde same = one_byte m.Tilde 126 refl same
  mark_begun m.Ampersand same = one_byte m.Ampersand 38 refl same
  mark_begun m.Equal same = one_byte m.Equal 61 refl same
  mark_begun m.Star same = one_byte m.Star 42 refl same
  mark_begun m.Greater same = one_byte m.Greater 62 refl same
  mark_begun m.Bar same = one_byte m.Bar 124 refl same
  mark_begun m.NotEqual same = two_bytes m.NotEqual m.Bang 33 61 refl refl same
  mark_begun m.Imp same = two_bytes m.Imp m.Equal 61 62 refl refl same
  mark_begun m.Nand same = two_bytes m.Nand m.Tilde 126 38 refl refl same
  mark_begun m.Nor same = two_bytes m.Nor m.Tilde 126 124 refl refl same
  mark_begun m.RevImp same = elim (two_at_front 60 61 text more same some) [
    | inl e ↦ begun_at (60 ∷ []) refl e
    | inr e ↦ token_at m.RevImp e
  ]
  mark_begun m.Iff same = elim (three_at_front 60 61 62 text more same some) [
    | inl e ↦ begun_at (60 ∷ []) refl e
    | inr f ↦ elim f [ inl e ↦ token_at m.RevImp e | inr e ↦ token_at m.Iff e ]
  ]
  mark_begun m.Xor same = elim (three_at_front 60 126 62 text more same some) [
    | inl e ↦ begun_at (60 ∷ []) refl e
    | inr f ↦ elim f [ inl e ↦ begun_at (60 ∷ 126 ∷ []) refl e | inr e ↦ token_at m.Xor e ]
  ]

-- ---- words

-- a word behind these bytes
module _ (style : Style) where
  of_number : (text : Text) → BeginsNumber text → Unfinished style text
  of_number text (is_number n) = is_token (t.Number text) (number n)
  of_number text (is_sign_alone grows) = is_begun grows
  of_number text (is_tail digits tail n begins same) = has_tail digits tail n begins same

  pub unfinished : {token : Token} {spelling : Text} → Spelled style token spelling → (text more : Text) → spelling ≡ text ++ more → 1 ≤ length text → Unfinished style text
  unfinished spelled [] more same some = absurd (omega arith)
  unfinished (lower_word {first = first} {word = word} h all) (x ∷ xs) more same some =
      let heads : first ≡ x = cc in
      let tails : word ≡ xs ++ more = cc in
      is_token (t.Lower (x ∷ xs)) (lower_word (subst (λ c. is_lower_alpha c ≡ true) heads h) (all_front is_alpha_numeric xs more (subst (λ z. list_all is_alpha_numeric z ≡ true) tails all)))
  unfinished (upper_word {first = first} {word = word} h all) (x ∷ xs) more same some =
      let heads : first ≡ x = cc in
      let tails : word ≡ xs ++ more = cc in
      is_token (t.Upper (x ∷ xs)) (upper_word (subst (λ c. is_upper_alpha c ≡ true) heads h) (all_front is_alpha_numeric xs more (subst (λ z. list_all is_alpha_numeric z ≡ true) tails all)))
  unfinished (dollar_word {first = first} {word = word} all) (x ∷ []) more same some =
      let is : x ≡ 36 = cc in is_begun (subst (λ c. may_grow (c ∷ []) ≡ true) (sym is) refl)
  unfinished (dollar_word {first = first} {word = word} all) (x ∷ y ∷ ys) more same some =
      let is : x ≡ 36 = cc in
      let tails : first ∷ word ≡ (y ∷ ys) ++ more = cc in
      let own : list_all is_alpha_numeric (y ∷ ys) ≡ true = all_front is_alpha_numeric (y ∷ ys) more (subst (λ z. list_all is_alpha_numeric z ≡ true) tails all) in
      subst (λ c. Unfinished style (c ∷ y ∷ ys)) (sym is) (is_token (t.Dollar (36 ∷ y ∷ ys)) (dollar_word own))
  unfinished (dollar_dollar_word {first = first} {word = word} all) (x ∷ []) more same some =
      let is : x ≡ 36 = cc in is_begun (subst (λ c. may_grow (c ∷ []) ≡ true) (sym is) refl)
  unfinished (dollar_dollar_word {first = first} {word = word} all) (x ∷ y ∷ []) more same some =
      let is : x ∷ y ∷ [] ≡ 36 ∷ 36 ∷ [] = cc in is_begun (ap may_grow is)
  unfinished (dollar_dollar_word {first = first} {word = word} all) (x ∷ y ∷ z ∷ zs) more same some =
      let is : x ∷ y ∷ z ∷ zs ≡ 36 ∷ 36 ∷ z ∷ zs = cc in
      let tails : first ∷ word ≡ (z ∷ zs) ++ more = cc in
      let own : list_all is_alpha_numeric (z ∷ zs) ≡ true = all_front is_alpha_numeric (z ∷ zs) more (subst (λ w. list_all is_alpha_numeric w ≡ true) tails all) in
      subst (Unfinished style) (sym is) (is_token (t.System (36 ∷ 36 ∷ z ∷ zs)) (dollar_dollar_word own))
  unfinished (single_quoted {char = char} {chars = chars} {written = written} w) (x ∷ xs) more same some =
      quote_begun style 39 (t.Quoted (char ∷ chars)) w (single_quoted w) (λ z o. inl o) (x ∷ xs) more same some
  unfinished (distinct_object {chars = chars} {written = written} w) (x ∷ xs) more same some =
      quote_begun style 34 (t.Distinct chars) w (distinct_object w) (λ z o. inr (inl o)) (x ∷ xs) more same some
  unfinished (number n) (x ∷ xs) more same some = of_number (x ∷ xs) (number_begun n (x ∷ xs) more same some)
  unfinished (comment_line {first = first} {line = line} h all) (x ∷ xs) more same some =
      let heads : first ≡ x = cc in
      let tails : line ≡ xs ++ more = cc in
      is_token (t.Comment (x ∷ xs)) (comment_line (subst (λ c. begins_comment style c ≡ true) heads h) (all_front is_no_line_feed xs more (subst (λ z. list_all is_no_line_feed z ≡ true) tails all)))
  unfinished (comment_block body clean) (x ∷ xs) more same some = block_begun style body clean (x ∷ xs) more same some
  unfinished (mark sign) (x ∷ xs) more same some = mark_begun style (x ∷ xs) more some sign same
