-- What the scanner finds is there.
use Rattle.std.proofs.Common.{◌≡◌, ℕ, suc, ◌+◌, ◌≤◌, Bool, true, false, ◌==◌, ◌||◌, nat_le, [], ◌∷◌, ◌++◌, length, take, drop, slice_index, if◌then◌else◌, Option, Some, None, inl, inr, refl, sym, ap, subst, ◌∙◌, arith, append_assoc, length-append, take-append-drop, lit≤}
use Rattle.std.proofs.lemmas.Bool.{and_from, eqb-true, eqb-false, leb-true}
use Rattle.std.proofs.lemmas.List.{length-take-le}
use Rattle.std.proofs.lemmas.List.Folds.{length-prefix_len}
use Rattle.std.proofs.lemmas.List.Sums.{prefix_len-le-length}
use Rattle.std.specs.List.{list_all, prefix_len}
use Rattle.tptp_lexer.specs.declared.quotes.Quote.{Quote}
use Rattle.tptp_lexer.specs.declared.quotes.Quote.TheVariants.{Closed, Unclosed, Broken}
use Rattle.tptp_lexer.specs.declared.scan.Front.{Front}
use Rattle.tptp_lexer.specs.declared.scan.Front.TheVariants.{Blanks, Token as Found, Open, Nothing}
use Rattle.tptp_lexer.specs.declared.scan.Kind.{Kind}
use Rattle.tptp_lexer.specs.declared.scan.Kind.TheVariants as k
use Rattle.tptp_lexer.specs.declared.style.Style.{Style}
use Rattle.tptp_lexer.specs.declared.token.Mark.{Mark}
use Rattle.tptp_lexer.specs.declared.token.Mark.TheVariants as m
use Rattle.tptp_lexer.specs.declared.token.Token.{Token}
use Rattle.tptp_lexer.specs.declared.token.Token.TheVariants as t
use Rattle.tptp_lexer.specs.Answer.{IsOpen, BeginsNothing}
use Rattle.tptp_lexer.specs.Bytes.{Text, is_blank, is_lower_alpha, is_upper_alpha, is_numeric, is_alpha_numeric}
use Rattle.tptp_base.specs.Place.{is_no_line_feed}
use Rattle.tptp_lexer.specs.Comments.{begins_comment}
use Rattle.tptp_lexer.specs.Marks.{mark_text}
use Rattle.tptp_lexer.specs.Numbers.{is_sign}
use Rattle.tptp_lexer.specs.Quotes.{IsWritten, nothing, plain, escaped, IsOpenQuote}
use Rattle.tptp_lexer.specs.Lexemes.{unescaped, inside, token_of}
use Rattle.tptp_lexer.specs.Scan.{FoundMark, number_len, quote_end, comment_end, counted, marked, quoted, commented, dollar, block, behind_words, front_of}
use Rattle.tptp_lexer.specs.Spelled.{Spelled, lower_word, upper_word, dollar_word, dollar_dollar_word, single_quoted, distinct_object, number, comment_line, comment_block, mark}
use Rattle.tptp_lexer.proofs.Runs.{prefix_passes}
use Rattle.tptp_lexer.proofs.QuoteEnds.{end_says, SaysEnd, written_unescaped, written_unclosed}
use Rattle.tptp_lexer.proofs.CommentEnds.{SaysComment, comment_says, comment_end_none}
use Rattle.tptp_lexer.proofs.MarkFronts.{IsMark, head_is, mark_of, mark_is}
use Rattle.tptp_lexer.proofs.NumberFronts.{BeginsNumber, number_begins, found_number}
use Rattle.tptp_lexer.proofs.NumberFits.{number_fits}
use Rattle.tptp_lexer.proofs.Fronts.{front-single, front-double, front-slash, front-blank, lower_first, upper_first, inside_is, in_line_first, Reached, reached}

-- what the front says of a text
abbrev pub SaysFront : Style → Text → Front → Type 0
SaysFront style text (Found kind len) = (spelling : Text) × (rest : Text) × Spelled style (token_of kind spelling) spelling × (text ≡ spelling ++ rest) × (length spelling ≡ len)
SaysFront style text (Blanks len) = (list_all is_blank (take len text) ≡ true) × (1 ≤ len) × (len ≤ length text)
SaysFront style text Open = IsOpen text
SaysFront style text Nothing = Unit {0}

by_test : (style : Style) (text : Text) (test : Bool) (x y : Front) → (test ≡ true → SaysFront style text x) → (test ≡ false → SaysFront style text y) → SaysFront style text (if test then x else y)
by_test style text true x y h k = h refl
by_test style text false x y h k = k refl

-- ---- runs

run_is : (p : ℕ → Bool) (byte : ℕ) (text : Text) → p byte ≡ true → prefix_len p (byte ∷ text) ≡ suc (prefix_len p text)
run_is p byte text h = rw h (omega arith)

run_says : (style : Style) (kind : Kind) (p : ℕ → Bool) (byte : ℕ) (text : Text) → p byte ≡ true → Spelled style (token_of kind (byte ∷ take (prefix_len p text) text)) (byte ∷ take (prefix_len p text) text)
    → SaysFront style (byte ∷ text) (Found kind (prefix_len p (byte ∷ text)))
run_says style kind p byte text h spelled =
    (byte ∷ take (prefix_len p text) text, drop (prefix_len p text) text, spelled, ap (λ z. byte ∷ z) (sym (take-append-drop (prefix_len p text) text)), ap suc (length-prefix_len p text) ∙ sym (run_is p byte text h))

blanks_say : (style : Style) (byte : ℕ) (text : Text) → is_blank byte ≡ true → SaysFront style (byte ∷ text) (Blanks (prefix_len is_blank (byte ∷ text)))
blanks_say style byte text h =
    (prefix_passes is_blank (byte ∷ text), (let is = run_is is_blank byte text h in omega arith), prefix_len-le-length is_blank (byte ∷ text))

-- ---- numbers, and words behind `$`

counted_by : (style : Style) (text : Text) (kind : Kind) (before len : ℕ) → ((len ≡ 0 → ⊥) → SaysFront style text (Found kind (before + len))) → SaysFront style text (counted kind before len)
counted_by style text kind before len h = by_test style text (len == 0) Nothing (Found kind (before + len)) (λ none. tt) (λ some. h (eqb-false len 0 some))

number_says : (style : Style) (text : Text) → SaysFront style text (counted k.Number 0 (number_len text))
number_says style text = counted_by style text k.Number 0 (number_len text) (λ some.
    (take (number_len text) text, drop (number_len text) text, number (found_number text some), sym (take-append-drop (number_len text) text), length-take-le (number_len text) text (number_fits text) ∙ omega arith))

-- a run that is not empty
run_some : (p : ℕ → Bool) (text : Text) → (prefix_len p text ≡ 0 → ⊥) → (first : ℕ) × (word : Text) × (rest : Text) × (list_all p (first ∷ word) ≡ true) × (text ≡ first ∷ (word ++ rest)) × (suc (length word) ≡ prefix_len p text)
run_some p [] some = absurd (some refl)
run_some p (byte ∷ text) some = run_by p byte text (p byte) refl some
  where
    run_by : (p : ℕ → Bool) (byte : ℕ) (text : Text) (test : Bool) → p byte ≡ test → ((if test then 1 + prefix_len p text else 0) ≡ 0 → ⊥)
        → (first : ℕ) × (word : Text) × (rest : Text) × (list_all p (first ∷ word) ≡ true) × (byte ∷ text ≡ first ∷ (word ++ rest)) × (suc (length word) ≡ (if test then 1 + prefix_len p text else 0))
    run_by p byte text true h some =
        (byte, take (prefix_len p text) text, drop (prefix_len p text) text, and_from _ _ h (prefix_passes p text), ap (λ z. byte ∷ z) (sym (take-append-drop (prefix_len p text) text)), omega (arith, length-prefix_len p text))
    run_by p byte text false h some = absurd (some refl)

dollar_says : (style : Style) (text : Text) → SaysFront style (36 ∷ text) (dollar text)
dollar_says style text =
    by_test style (36 ∷ text) (slice_index text 0 == 36) (counted k.System 2 (prefix_len is_alpha_numeric (drop 1 text))) (counted k.Dollar 1 (prefix_len is_alpha_numeric text))
    (λ h. counted_by style (36 ∷ text) k.System 2 (prefix_len is_alpha_numeric (drop 1 text)) (λ some.
    let (first, word, rest, all, same, long) = run_some is_alpha_numeric (drop 1 text) some in
    (36 ∷ 36 ∷ first ∷ word, rest, dollar_dollar_word all, ap (λ z. 36 ∷ z) (head_is text 36 h refl ∙ ap (λ z. 36 ∷ z) same), omega arith)))
    (λ h. counted_by style (36 ∷ text) k.Dollar 1 (prefix_len is_alpha_numeric text) (λ some.
    let (first, word, rest, all, same, long) = run_some is_alpha_numeric text some in
    (36 ∷ first ∷ word, rest, dollar_word all, ap (λ z. 36 ∷ z) same, omega arith)))

-- ---- quotes and comments

quoted_spelled : (style : Style) {chars written : Text} → IsWritten 39 chars written → 1 ≤ length written → Spelled style (t.Quoted chars) (39 ∷ (written ++ 39 ∷ []))
quoted_spelled style nothing h = absurd (omega arith)
quoted_spelled style (plain p more) h = single_quoted (plain p more)
quoted_spelled style (escaped p more) h = single_quoted (escaped p more)

single_spells : (style : Style) (chars written : Text) → IsWritten 39 chars written → 1 ≤ length written → Spelled style (token_of k.Quoted (39 ∷ (written ++ 39 ∷ []))) (39 ∷ (written ++ 39 ∷ []))
single_spells style chars written w h =
    let is : unescaped (inside (39 ∷ (written ++ 39 ∷ []))) ≡ chars = ap unescaped (inside_is 39 39 written) ∙ written_unescaped 39 w in
    subst (λ z. Spelled style (t.Quoted z) (39 ∷ (written ++ 39 ∷ []))) (sym is) (quoted_spelled style w h)

double_spells : (style : Style) (chars written : Text) → IsWritten 34 chars written → 0 ≤ length written → Spelled style (token_of k.Distinct (34 ∷ (written ++ 34 ∷ []))) (34 ∷ (written ++ 34 ∷ []))
double_spells style chars written w h =
    let is : unescaped (inside (34 ∷ (written ++ 34 ∷ []))) ≡ chars = ap unescaped (inside_is 34 34 written) ∙ written_unescaped 34 w in
    subst (λ z. Spelled style (t.Distinct z) (34 ∷ (written ++ 34 ∷ []))) (sym is) (distinct_object w)

module _ (style : Style) (kind : Kind) (least quote : ℕ) (text : Text) (spells : (chars written : Text) → IsWritten quote chars written → least ≤ length written → Spelled style (token_of kind (quote ∷ (written ++ quote ∷ []))) (quote ∷ (written ++ quote ∷ [])))
    (opens : IsOpenQuote quote (quote ∷ text) → IsOpen (quote ∷ text)) where
  quoted_by : (end : Quote) → SaysEnd quote false 0 text end → SaysFront style (quote ∷ text) (quoted kind least end)
  quoted_by (Closed end) (chars, written, rest, w, same, ended) =
      by_test style (quote ∷ text) (nat_le least end) (Found kind (end + 2)) Nothing
      (λ h.
      let long : least ≤ length written = (let le = leb-true least end h in omega arith) in
      (quote ∷ (written ++ quote ∷ []), rest, spells chars written w long, ap (λ z. quote ∷ z) (same ∙ sym (append_assoc written (quote ∷ []) rest)), omega (arith, length-append written (quote ∷ []))))
      (λ h. tt)
  quoted_by Unclosed (chars, written, w, inl same) = opens (record { chars = chars; written = written; is_written = w; is_text = inl (ap (λ z. quote ∷ z) same) })
  quoted_by Unclosed (chars, written, w, inr same) = opens (record { chars = chars; written = written; is_written = w; is_text = inr (ap (λ z. quote ∷ z) same) })
  quoted_by Broken says = tt

block_by : (style : Style) (text : Text) (o : Option ℕ) → SaysComment text o → SaysFront style (47 ∷ 42 ∷ text) (commented o)
block_by style text None clean = inr (inr (record { body = text; has_no_end = clean; is_text = refl }))
block_by style text (Some end) (body, after, same, long, clean) =
    (47 ∷ 42 ∷ (body ++ 42 ∷ 47 ∷ []), after, comment_block body clean, ap (λ z. 47 ∷ 42 ∷ z) (same ∙ sym (append_assoc body (42 ∷ 47 ∷ []) after)), omega (arith, length-append body (42 ∷ 47 ∷ [])))

block_says : (style : Style) (text : Text) → SaysFront style (47 ∷ text) (block text)
block_says style text = by_test style (47 ∷ text) (slice_index text 0 == 42) (commented (comment_end (drop 1 text))) Nothing
    (λ h. let P : Text → Type 0 = λ z. SaysFront style (47 ∷ z) (commented (comment_end (drop 1 text))) in subst P (sym (head_is text 42 h refl)) (block_by style (drop 1 text) (comment_end (drop 1 text)) (comment_says (drop 1 text))))
    (λ h. tt)

-- ---- marks

mark_by : (style : Style) (text : Text) (found : FoundMark) → IsMark text found → SaysFront style text (marked found)
mark_by style text None is = tt
mark_by style text (Some found) is = (mark_text found.0, drop found.1 text, mark found.0, is.0, sym is.1)

-- ---- the front

words_say : (style : Style) (byte : ℕ) (text : Text) → SaysFront style (byte ∷ text) (behind_words style (byte ∷ text))
unfolding behind_words
words_say style byte text =
    let z = byte ∷ text in
    by_test style z (byte == 36) _ _ (λ e. at_byte 36 (dollar text) e (dollar_says style text)) (λ n.
    by_test style z (byte == 39) _ _ (λ e. at_byte 39 (quoted k.Quoted 1 (quote_end 39 false 0 text)) e (quoted_by style k.Quoted 1 39 text (single_spells style) inl _ (end_says 39 false 0 text))) (λ n.
    by_test style z (byte == 34) _ _ (λ e. at_byte 34 (quoted k.Distinct 0 (quote_end 34 false 0 text)) e (quoted_by style k.Distinct 0 34 text (double_spells style) (λ o. inr (inl o)) _ (end_says 34 false 0 text))) (λ n.
    by_test style z (begins_comment style byte) _ _ (λ h. run_says style k.Comment is_no_line_feed byte text (in_line_first style byte h) (comment_line h (prefix_passes is_no_line_feed text))) (λ n.
    by_test style z (byte == 47) _ _ (λ e. at_byte 47 (block text) e (block_says style text)) (λ n. mark_by style z (mark_of z) (mark_is byte text))))))
  where
    at_byte : (literal : ℕ) (front : Front) → byte == literal ≡ true → SaysFront style (literal ∷ text) front → SaysFront style (byte ∷ text) front
    at_byte literal front e h = subst (λ b. SaysFront style (b ∷ text) front) (sym (eqb-true byte literal e)) h

pub front_says : (style : Style) (byte : ℕ) (text : Text) → SaysFront style (byte ∷ text) (front_of style (byte ∷ text))
unfolding front_of
front_says style byte text =
    let z = byte ∷ text in
    by_test style z (is_lower_alpha byte) _ _ (λ h. run_says style k.Lower is_alpha_numeric byte text (lower_first byte h) (lower_word h (prefix_passes is_alpha_numeric text))) (λ n.
    by_test style z (is_upper_alpha byte) _ _ (λ h. run_says style k.Upper is_alpha_numeric byte text (upper_first byte h) (upper_word h (prefix_passes is_alpha_numeric text))) (λ n.
    by_test style z (is_blank byte) _ _ (blanks_say style byte text) (λ n.
    by_test style z (is_numeric byte || is_sign byte) _ _ (λ h. number_says style z) (λ n. words_say style byte text))))

-- ---- every token has a byte

mark_some : (sign : Mark) → 1 ≤ length (mark_text sign)
mark_some m.Open = lit≤ tt
mark_some _ = lit≤ tt

number_some : (spelling : Text) → BeginsNumber spelling → 1 ≤ length spelling
number_some [] h = absurd h
number_some (byte ∷ spelling) h = omega arith

pub spelled_some : {style : Style} {token : Token} {spelling : Text} → Spelled style token spelling → 1 ≤ length spelling
spelled_some (number {text = digits} h) = number_some digits (number_begins h)
spelled_some (mark sign) = mark_some sign
spelled_some _ = omega arith

-- ---- what is open is found

quote_opens : (quote : ℕ) (text : Text) → 92 == quote ≡ false → IsOpenQuote quote text → (rest : Text) × (text ≡ quote ∷ rest) × (quote_end quote false 0 rest ≡ Unclosed)
quote_opens quote text other o = elim o.is_text [
  | inl e ↦ (o.written, e, written_unclosed quote other o.is_written o.written (inl refl))
  | inr e ↦ (o.written ++ 92 ∷ [], e, written_unclosed quote other o.is_written (o.written ++ 92 ∷ []) (inr refl))
]

pub opened : (style : Style) (text : Text) → IsOpen text → front_of style text ≡ Open
opened style text (inl o) =
    let (rest, same, end) = quote_opens 39 text refl o in ap (front_of style) same ∙ front-single style rest ∙ ap (quoted k.Quoted 1) end
opened style text (inr (inl o)) =
    let (rest, same, end) = quote_opens 34 text refl o in ap (front_of style) same ∙ front-double style rest ∙ ap (quoted k.Distinct 0) end
opened style text (inr (inr o)) = ap (front_of style) o.is_text ∙ front-slash style (42 ∷ o.body) ∙ ap commented (comment_end_none o.body o.has_no_end)

-- ---- what nothing and the others leave out

no_reach : (token : Token) (spelling : Text) (front : Front) → Reached token spelling front → front ≡ Nothing → ⊥
no_reach token spelling (Found kind len) h e = cc
no_reach token spelling (Blanks len) h e = h
no_reach token spelling Open h e = h
no_reach token spelling Nothing h e = h

pub nothing_begins : (style : Style) (byte : ℕ) (text : Text) → front_of style (byte ∷ text) ≡ Nothing → BeginsNothing style (byte ∷ text)
nothing_begins style byte text none = record {
  goes_on = λ e. (cc);
  no_blank = λ (b, rest, h, same). (let found = front-blank style b rest h in let all = ap (front_of style) same in cc);
  no_token = λ (token, spelling, rest, spelled, same). no_reach token spelling (front_of style (spelling ++ rest)) (reached spelled rest) (ap (front_of style) (sym same) ∙ none);
  no_open = λ o. (let found = opened style (byte ∷ text) o in cc);
}
