-- What the scanner finds at the front of a text is the longest token, a run of blanks, something open, or nothing.
use Rattle.std.proofs.Common.{◌≡◌, ℕ, ◌+◌, ◌-◌, ◌≤◌, Bool, true, false, not, ◌==◌, ◌||◌, ◌&&◌, nat_le, [], ◌∷◌, ◌++◌, length, Some, None, ◌⊎◌, inl, inr, refl, sym, ap, subst, ◌∙◌, arith, append_assoc, length-append}
use Rattle.std.proofs.lemmas.Bool.{and_parts, and_from, or_cases, or_left, or_right, eqb-true, ne_eqb, cond-true, cond-false, le-leb, not-true}
use Rattle.std.proofs.lemmas.Bool.Decides.{nat_tests}
use Rattle.std.proofs.lemmas.List.{take_at}
use Rattle.std.specs.List.{list_all, prefix_len}
use Rattle.tptp_lexer.specs.declared.quotes.Quote.TheVariants.{Closed}
use Rattle.tptp_lexer.specs.declared.scan.Front.{Front}
use Rattle.tptp_lexer.specs.declared.scan.Front.TheVariants.{Blanks, Token as Found}
use Rattle.tptp_lexer.specs.declared.scan.Kind.{Kind}
use Rattle.tptp_lexer.specs.declared.scan.Kind.TheVariants as k
use Rattle.tptp_lexer.specs.declared.style.Style.{Style}
use Rattle.tptp_lexer.specs.declared.style.Style.TheVariants.{Problem, Derivation}
use Rattle.tptp_lexer.specs.declared.token.Mark.{Mark}
use Rattle.tptp_lexer.specs.declared.token.Mark.TheVariants as m
use Rattle.tptp_lexer.specs.declared.token.Token.{Token}
use Rattle.tptp_lexer.specs.declared.token.Token.TheVariants as t
use Rattle.tptp_lexer.specs.Bytes.{Text, is_blank, is_lower_alpha, is_upper_alpha, is_numeric, is_alpha_numeric}
use Rattle.tptp_base.specs.Place.{is_no_line_feed}
use Rattle.tptp_lexer.specs.Comments.{begins_comment}
use Rattle.tptp_lexer.specs.Marks.{mark_text}
use Rattle.tptp_lexer.specs.Numbers.{is_sign, IsNumber}
use Rattle.tptp_lexer.specs.Quotes.{IsWritten, plain, escaped}
use Rattle.tptp_lexer.specs.Lexemes.{unescaped, inside, token_of}
use Rattle.tptp_lexer.specs.Scan.{FoundMark, number_len, quote_end, counted, marked, quoted, commented, dollar, block, behind_words, front_of}
use Rattle.tptp_lexer.specs.Spelled.{Spelled, lower_word, upper_word, dollar_word, dollar_dollar_word, single_quoted, distinct_object, number, comment_line, comment_block, mark}
use Rattle.tptp_lexer.proofs.Runs.{passes_most}
use Rattle.tptp_lexer.proofs.QuoteEnds.{written_closes, written_unescaped}
use Rattle.tptp_lexer.proofs.CommentEnds.{comment_end_is}
use Rattle.tptp_lexer.proofs.MarkFronts.{Covers, mark_of, mark_covers}
use Rattle.tptp_lexer.proofs.NumberFronts.{BeginsNumber, number_begins, number_most}

-- ---- the tests of the first byte

upper_no_lower : (byte : ℕ) → is_upper_alpha byte ≡ true → is_lower_alpha byte ≡ false
upper_no_lower byte h = grind (arith, nat_tests)

numeric_no_word : (byte : ℕ) → is_numeric byte ≡ true → (is_lower_alpha byte ≡ false) × (is_upper_alpha byte ≡ false) × (is_blank byte ≡ false)
numeric_no_word byte h = (grind (arith, nat_tests), grind (arith, nat_tests), grind (arith, nat_tests))

number_no_word : (byte : ℕ) → (is_numeric byte || is_sign byte) ≡ true → (is_lower_alpha byte ≡ false) × (is_upper_alpha byte ≡ false) × (is_blank byte ≡ false)
number_no_word byte h = elim (or_cases (is_numeric byte) (is_sign byte) h) [
  | inl e ↦ numeric_no_word byte e
  | inr e ↦ elim (or_cases (byte == 43) (byte == 45) e) [
    | inl f ↦ (let is : byte ≡ 43 = eqb-true byte 43 f in rw is (refl, refl, refl))
    | inr f ↦ (let is : byte ≡ 45 = eqb-true byte 45 f in rw is (refl, refl, refl))
  ]
]

blank_no_word : (byte : ℕ) → is_blank byte ≡ true → (is_lower_alpha byte ≡ false) × (is_upper_alpha byte ≡ false)
blank_no_word byte h = (grind (arith, nat_tests), grind (arith, nat_tests))

word_no_dollar : (byte : ℕ) → is_alpha_numeric byte ≡ true → byte == 36 ≡ false
word_no_dollar byte h = grind (arith, nat_tests)

-- none of the bytes that begin something other than a mark
abbrev pub is_other : ℕ → Bool
is_other byte = (not (is_lower_alpha byte) && (not (is_upper_alpha byte) && (not (is_blank byte) && not (is_numeric byte || is_sign byte))))
    && ((not (byte == 36) && (not (byte == 39) && not (byte == 34))) && (not (byte == 37) && (not (byte == 35) && not (byte == 47))))

no_comment : (style : Style) (byte : ℕ) → byte == 37 ≡ false → byte == 35 ≡ false → begins_comment style byte ≡ false
no_comment Problem byte h k = h
no_comment Derivation byte h k = rw (h, k) refl

comment_byte : (style : Style) (byte : ℕ) → begins_comment style byte ≡ true → (byte ≡ 37) ⊎ (byte ≡ 35)
comment_byte Problem byte h = inl (eqb-true byte 37 h)
comment_byte Derivation byte h = elim (or_cases (byte == 37) (byte == 35) h) [ inl e ↦ inl (eqb-true byte 37 e) | inr e ↦ inr (eqb-true byte 35 e) ]

-- ---- the front by the first byte

module _ (style : Style) (byte : ℕ) (text : Text) where
  pub front-lower : is_lower_alpha byte ≡ true → front_of style (byte ∷ text) ≡ Found k.Lower (prefix_len is_alpha_numeric (byte ∷ text))
  unfolding front_of
  front-lower h = cond-true (is_lower_alpha byte) _ _ h

  pub front-upper : is_upper_alpha byte ≡ true → front_of style (byte ∷ text) ≡ Found k.Upper (prefix_len is_alpha_numeric (byte ∷ text))
  unfolding front_of
  front-upper h = cond-false (is_lower_alpha byte) _ _ (upper_no_lower byte h) ∙ cond-true (is_upper_alpha byte) _ _ h

  pub front-blank : is_blank byte ≡ true → front_of style (byte ∷ text) ≡ Blanks (prefix_len is_blank (byte ∷ text))
  unfolding front_of
  front-blank h = let others = blank_no_word byte h in cond-false (is_lower_alpha byte) _ _ others.0 ∙ cond-false (is_upper_alpha byte) _ _ others.1 ∙ cond-true (is_blank byte) _ _ h

  pub front-number : (is_numeric byte || is_sign byte) ≡ true → front_of style (byte ∷ text) ≡ counted k.Number 0 (number_len (byte ∷ text))
  unfolding front_of
  front-number h =
      let others = number_no_word byte h in
      cond-false (is_lower_alpha byte) _ _ others.0 ∙ cond-false (is_upper_alpha byte) _ _ others.1 ∙ cond-false (is_blank byte) _ _ others.2 ∙ cond-true (is_numeric byte || is_sign byte) _ _ h

  pub front-mark : is_other byte ≡ true → front_of style (byte ∷ text) ≡ marked (mark_of (byte ∷ text))
  unfolding front_of behind_words
  front-mark h =
      let halves = and_parts _ _ h in
      let a = and_parts _ _ halves.0 in let b = and_parts _ _ a.1 in let c = and_parts _ _ b.1 in
      let d = and_parts _ _ halves.1 in let e = and_parts _ _ d.0 in let f = and_parts _ _ e.1 in let g = and_parts _ _ d.1 in let i = and_parts _ _ g.1 in
      cond-false (is_lower_alpha byte) _ _ (not-true _ a.0) ∙ cond-false (is_upper_alpha byte) _ _ (not-true _ b.0) ∙ cond-false (is_blank byte) _ _ (not-true _ c.0)
      ∙ cond-false (is_numeric byte || is_sign byte) _ _ (not-true _ c.1) ∙ cond-false (byte == 36) _ _ (not-true _ e.0) ∙ cond-false (byte == 39) _ _ (not-true _ f.0)
      ∙ cond-false (byte == 34) _ _ (not-true _ f.1) ∙ cond-false (begins_comment style byte) _ _ (no_comment style byte (not-true _ g.0) (not-true _ i.0)) ∙ cond-false (byte == 47) _ _ (not-true _ i.1)

module _ (style : Style) (text : Text) where
  pub front-dollar : front_of style (36 ∷ text) ≡ dollar text
  unfolding front_of behind_words
  front-dollar = refl

  pub front-single : front_of style (39 ∷ text) ≡ quoted k.Quoted 1 (quote_end 39 false 0 text)
  unfolding front_of behind_words
  front-single = refl

  pub front-double : front_of style (34 ∷ text) ≡ quoted k.Distinct 0 (quote_end 34 false 0 text)
  unfolding front_of behind_words
  front-double = refl

  pub front-slash : front_of style (47 ∷ text) ≡ block text
  unfolding front_of behind_words
  front-slash = cond-false (begins_comment style 47) _ _ (no_comment style 47 refl refl)

  front-percent : begins_comment style 37 ≡ true → front_of style (37 ∷ text) ≡ Found k.Comment (prefix_len is_no_line_feed (37 ∷ text))
  unfolding front_of behind_words
  front-percent h = cond-true (begins_comment style 37) _ _ h

  front-number_sign : begins_comment style 35 ≡ true → front_of style (35 ∷ text) ≡ Found k.Comment (prefix_len is_no_line_feed (35 ∷ text))
  unfolding front_of behind_words
  front-number_sign h = cond-true (begins_comment style 35) _ _ h

pub front-line : (style : Style) (byte : ℕ) (text : Text) → begins_comment style byte ≡ true → front_of style (byte ∷ text) ≡ Found k.Comment (prefix_len is_no_line_feed (byte ∷ text))
front-line style byte text h =
    let P : ℕ → Type 0 = λ b. begins_comment style b ≡ true → front_of style (b ∷ text) ≡ Found k.Comment (prefix_len is_no_line_feed (b ∷ text)) in
    elim (comment_byte style byte h) [
      | inl e ↦ subst P (sym e) (front-percent style text) h
      | inr e ↦ subst P (sym e) (front-number_sign style text) h
    ]

front-of_mark : (style : Style) (sign : Mark) (rest : Text) → front_of style (mark_text sign ++ rest) ≡ marked (mark_of (mark_text sign ++ rest))
front-of_mark style m.Open rest = front-mark style 40 rest refl
front-of_mark style m.Close rest = front-mark style 41 rest refl
front-of_mark style m.OpenList rest = front-mark style 91 rest refl
front-of_mark style m.CloseList rest = front-mark style 93 rest refl
front-of_mark style m.Comma rest = front-mark style 44 rest refl
front-of_mark style m.Dot rest = front-mark style 46 rest refl
front-of_mark style m.Colon rest = front-mark style 58 rest refl
front-of_mark style m.Bang rest = front-mark style 33 rest refl
front-of_mark style m.Question rest = front-mark style 63 rest refl
front-of_mark style m.Tilde rest = front-mark style 126 rest refl
front-of_mark style m.Ampersand rest = front-mark style 38 rest refl
front-of_mark style m.Equal rest = front-mark style 61 rest refl
front-of_mark style m.NotEqual rest = front-mark style 33 (61 ∷ rest) refl
front-of_mark style m.Star rest = front-mark style 42 rest refl
front-of_mark style m.Greater rest = front-mark style 62 rest refl
front-of_mark style m.Imp rest = front-mark style 61 (62 ∷ rest) refl
front-of_mark style m.RevImp rest = front-mark style 60 (61 ∷ rest) refl
front-of_mark style m.Iff rest = front-mark style 60 (61 ∷ 62 ∷ rest) refl
front-of_mark style m.Xor rest = front-mark style 60 (126 ∷ 62 ∷ rest) refl
front-of_mark style m.Nand rest = front-mark style 126 (38 ∷ rest) refl
front-of_mark style m.Bar rest = front-mark style 124 rest refl
front-of_mark style m.Nor rest = front-mark style 126 (124 ∷ rest) refl

-- ---- a token at the front is no longer than the one that is found

-- a token is found that is as long as this one, and it is this one where it is no longer
abbrev pub Reached : Token → Text → Front → Type 0
Reached token spelling (Found kind len) = (length spelling ≤ len) × (length spelling ≡ len → token_of kind spelling ≡ token)
Reached token spelling _ = ⊥

pub counted_is : (kind : Kind) (before len : ℕ) → 1 ≤ len → counted kind before len ≡ Found kind (before + len)
counted_is kind before len h = cond-false (len == 0) _ _ (ne_eqb len 0 (λ none. (omega arith)))

dollar_by : (first : ℕ) (word rest : Text) → list_all is_alpha_numeric (first ∷ word) ≡ true → Reached (t.Dollar (36 ∷ first ∷ word)) (36 ∷ first ∷ word) (dollar (first ∷ (word ++ rest)))
dollar_by first word rest h =
    let most : length (first ∷ word) ≤ prefix_len is_alpha_numeric (first ∷ (word ++ rest)) = passes_most is_alpha_numeric (first ∷ word) rest h in
    let parts = and_parts (is_alpha_numeric first) (list_all is_alpha_numeric word) h in
    let found : dollar (first ∷ (word ++ rest)) ≡ Found k.Dollar (1 + prefix_len is_alpha_numeric (first ∷ (word ++ rest))) =
    (cond-false (first == 36) _ _ (word_no_dollar first parts.0) ∙ counted_is k.Dollar 1 (prefix_len is_alpha_numeric (first ∷ (word ++ rest))) (omega arith)) in
    subst (Reached (t.Dollar (36 ∷ first ∷ word)) (36 ∷ first ∷ word)) (sym found) (omega arith, λ e. refl)

system_by : (first : ℕ) (word rest : Text) → list_all is_alpha_numeric (first ∷ word) ≡ true → Reached (t.System (36 ∷ 36 ∷ first ∷ word)) (36 ∷ 36 ∷ first ∷ word) (dollar (36 ∷ first ∷ (word ++ rest)))
system_by first word rest h =
    let most : length (first ∷ word) ≤ prefix_len is_alpha_numeric (first ∷ (word ++ rest)) = passes_most is_alpha_numeric (first ∷ word) rest h in
    let found : dollar (36 ∷ first ∷ (word ++ rest)) ≡ Found k.System (2 + prefix_len is_alpha_numeric (first ∷ (word ++ rest))) =
    counted_is k.System 2 (prefix_len is_alpha_numeric (first ∷ (word ++ rest))) (omega arith) in
    subst (Reached (t.System (36 ∷ 36 ∷ first ∷ word)) (36 ∷ 36 ∷ first ∷ word)) (sym found) (omega arith, λ e. refl)

pub inside_is : (first last : ℕ) (written : Text) → inside (first ∷ (written ++ last ∷ [])) ≡ written
inside_is first last written = take_at written (last ∷ []) (length (first ∷ (written ++ last ∷ [])) - 2) (omega (arith, length-append written (last ∷ [])))

quote_length : (quote : ℕ) (written : Text) → length (quote ∷ (written ++ quote ∷ [])) ≡ length written + 2
quote_length quote written = omega (arith, length-append written (quote ∷ []))

quoted_is : (kind : Kind) (least len : ℕ) → least ≤ len → quoted kind least (Closed len) ≡ Found kind (len + 2)
quoted_is kind least len h = cond-true (nat_le least len) _ _ (le-leb least len h)

closed_flat : (quote : ℕ) (written rest : Text) → (quote ∷ (written ++ quote ∷ [])) ++ rest ≡ quote ∷ (written ++ quote ∷ rest)
closed_flat quote written rest = ap (λ z. quote ∷ z) (append_assoc written (quote ∷ []) rest)

written_some : (quote : ℕ) {char : ℕ} {chars written : Text} → IsWritten quote (char ∷ chars) written → 1 ≤ length written
written_some quote (plain h more) = omega arith
written_some quote (escaped h more) = omega arith

number_reached : (style : Style) (spelling rest : Text) → IsNumber spelling → BeginsNumber spelling → Reached (t.Number spelling) spelling (front_of style (spelling ++ rest))
number_reached style [] rest h begins = absurd begins
number_reached style (byte ∷ digits) rest h begins =
    let most = number_most h rest in
    let found : front_of style (byte ∷ (digits ++ rest)) ≡ Found k.Number (0 + number_len (byte ∷ (digits ++ rest))) =
    (front-number style byte (digits ++ rest) begins ∙ counted_is k.Number 0 (number_len (byte ∷ (digits ++ rest))) (omega arith)) in
    subst (Reached (t.Number (byte ∷ digits)) (byte ∷ digits)) (sym found) (omega arith, λ e. refl)

mark_reached : (sign : Mark) (found : FoundMark) → Covers sign found → Reached (t.Mark sign) (mark_text sign) (marked found)
mark_reached sign None covers = covers
mark_reached sign (Some found) covers = (covers.0, λ e. ap t.Mark (covers.1 e))

-- a run whose first bytes pass
run_reached : (kind : Kind) (p : ℕ → Bool) (token : Token) (spelling rest : Text) → list_all p spelling ≡ true → token_of kind spelling ≡ token → Reached token spelling (Found kind (prefix_len p (spelling ++ rest)))
run_reached kind p token spelling rest h is = (passes_most p spelling rest h, λ e. is)

pub in_line_first : (style : Style) (byte : ℕ) → begins_comment style byte ≡ true → is_no_line_feed byte ≡ true
in_line_first style byte h = elim (comment_byte style byte h) [ inl e ↦ rw e refl | inr e ↦ rw e refl ]

pub lower_first : (byte : ℕ) → is_lower_alpha byte ≡ true → is_alpha_numeric byte ≡ true
lower_first byte h = or_left _ _ (or_left _ _ h)

pub upper_first : (byte : ℕ) → is_upper_alpha byte ≡ true → is_alpha_numeric byte ≡ true
upper_first byte h = or_left _ _ (or_right _ _ h)

pub reached : {style : Style} {token : Token} {spelling : Text} → Spelled style token spelling → (rest : Text) → Reached token spelling (front_of style (spelling ++ rest))
reached {style} (lower_word {first = first} {word = word} h all) rest =
    subst (Reached (t.Lower (first ∷ word)) (first ∷ word)) (sym (front-lower style first (word ++ rest) h))
    (run_reached k.Lower is_alpha_numeric (t.Lower (first ∷ word)) (first ∷ word) rest (and_from _ _ (lower_first first h) all) refl)
reached {style} (upper_word {first = first} {word = word} h all) rest =
    subst (Reached (t.Upper (first ∷ word)) (first ∷ word)) (sym (front-upper style first (word ++ rest) h))
    (run_reached k.Upper is_alpha_numeric (t.Upper (first ∷ word)) (first ∷ word) rest (and_from _ _ (upper_first first h) all) refl)
reached {style} (dollar_word {first = first} {word = word} all) rest =
    subst (Reached (t.Dollar (36 ∷ first ∷ word)) (36 ∷ first ∷ word)) (sym (front-dollar style (first ∷ (word ++ rest)))) (dollar_by first word rest all)
reached {style} (dollar_dollar_word {first = first} {word = word} all) rest =
    subst (Reached (t.System (36 ∷ 36 ∷ first ∷ word)) (36 ∷ 36 ∷ first ∷ word)) (sym (front-dollar style (36 ∷ first ∷ (word ++ rest)))) (system_by first word rest all)
reached {style} (single_quoted {char = char} {chars = chars} {written = written} w) rest =
    let spelling = 39 ∷ (written ++ 39 ∷ []) in
    let found : front_of style (spelling ++ rest) ≡ Found k.Quoted (length written + 2) =
    (ap (front_of style) (closed_flat 39 written rest) ∙ front-single style (written ++ 39 ∷ rest) ∙ ap (quoted k.Quoted 1) (written_closes 39 refl w rest) ∙ quoted_is k.Quoted 1 (length written) (written_some 39 w)) in
    subst (Reached (t.Quoted (char ∷ chars)) spelling) (sym found) (omega (arith, quote_length 39 written), λ e. ap (λ z. t.Quoted (unescaped z)) (inside_is 39 39 written) ∙ ap t.Quoted (written_unescaped 39 w))
reached {style} (distinct_object {chars = chars} {written = written} w) rest =
    let spelling = 34 ∷ (written ++ 34 ∷ []) in
    let found : front_of style (spelling ++ rest) ≡ Found k.Distinct (length written + 2) =
    (ap (front_of style) (closed_flat 34 written rest) ∙ front-double style (written ++ 34 ∷ rest) ∙ ap (quoted k.Distinct 0) (written_closes 34 refl w rest) ∙ quoted_is k.Distinct 0 (length written) (omega arith)) in
    subst (Reached (t.Distinct chars) spelling) (sym found) (omega (arith, quote_length 34 written), λ e. ap (λ z. t.Distinct (unescaped z)) (inside_is 34 34 written) ∙ ap t.Distinct (written_unescaped 34 w))
reached {style} (number {text = digits} h) rest = number_reached style digits rest h (number_begins h)
reached {style} (comment_line {first = first} {line = line} h all) rest =
    subst (Reached (t.Comment (first ∷ line)) (first ∷ line)) (sym (front-line style first (line ++ rest) h))
    (run_reached k.Comment is_no_line_feed (t.Comment (first ∷ line)) (first ∷ line) rest (and_from _ _ (in_line_first style first h) all) refl)
reached {style} (comment_block body clean) rest =
    let spelling = 47 ∷ 42 ∷ (body ++ 42 ∷ 47 ∷ []) in
    let found : front_of style (spelling ++ rest) ≡ Found k.Comment (length body + 4) =
    (ap (λ z. front_of style (47 ∷ 42 ∷ z)) (append_assoc body (42 ∷ 47 ∷ []) rest) ∙ front-slash style (42 ∷ (body ++ 42 ∷ 47 ∷ rest)) ∙ ap commented (comment_end_is body rest clean)) in
    subst (Reached (t.Comment spelling) spelling) (sym found) (omega (arith, length-append body (42 ∷ 47 ∷ [])), λ e. refl)
reached {style} (mark sign) rest =
    subst (Reached (t.Mark sign) (mark_text sign)) (sym (front-of_mark style sign rest)) (mark_reached sign (mark_of (mark_text sign ++ rest)) (mark_covers sign rest))
