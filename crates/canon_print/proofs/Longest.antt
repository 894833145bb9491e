-- Which spellings are the longest tokens at their places, by what follows them.
use Rattle.std.proofs.Common.{◌≡◌, ℕ, zero, suc, ◌+◌, ◌≤◌, Bool, true, false, not, ◌&&◌, ◌||◌, ◌==◌, [], ◌∷◌, ◌++◌, length, take, Some, refl, sym, ap, ◌∙◌, arith, append_assoc, length-append}
use Rattle.std.proofs.lemmas.Bool.{and_parts, and_from, or_left, or_right, not-true, cond-false}
use Rattle.std.proofs.lemmas.Bool.Decides.{nat_tests}
use Rattle.std.specs.List.{list_all, prefix_len}
use Rattle.tptp_lexer.specs.declared.scan.Front.TheVariants.{Token as Found}
use Rattle.tptp_lexer.specs.declared.scan.Kind.TheVariants as k
use Rattle.tptp_lexer.specs.declared.style.Style.{Style}
use Rattle.tptp_lexer.specs.declared.token.Mark.{Mark as Sign}
use Rattle.tptp_lexer.specs.declared.token.Mark.TheVariants as m
use Rattle.tptp_lexer.specs.Bytes.{Text, is_lower_alpha, is_upper_alpha, is_numeric, is_alpha_numeric}
use Rattle.tptp_base.specs.Place.{is_no_line_feed}
use Rattle.tptp_lexer.specs.Comments.{begins_comment, HasNoEnd}
use Rattle.tptp_lexer.specs.Marks.{mark_text}
use Rattle.tptp_lexer.specs.Numbers.{is_sign, is_exponent, AreDigits, IsSign, no_sign, one_sign, IsFraction, no_fraction, dot_decimal, IsExponent, no_exponent, exponent, IsNumber, rational, decimal}
use Rattle.tptp_lexer.specs.Quotes.{IsWritten, single_quote, double_quote}
use Rattle.tptp_lexer.specs.Scan.{front_of, marked, quoted, dollar, number_len, commented}
use Rattle.tptp_lexer.specs.Spelled.{IsLongest}
use Rattle.tptp_lexer.proofs.CommentEnds.{comment_end_is}
use Rattle.tptp_lexer.proofs.Cuts.{found_longest}
use Rattle.tptp_lexer.proofs.Fronts.{front-lower, front-upper, front-mark, front-dollar, front-single, front-double, front-number, front-line, front-slash, counted_is, lower_first, upper_first, in_line_first}
use Rattle.tptp_lexer.proofs.MarkFronts.{mark_of}
use Rattle.tptp_lexer.proofs.NumberFits.{number_fits}
use Rattle.tptp_lexer.proofs.NumberFronts.{number_most, number_begins, found_number, BeginsNumber}
use Rattle.tptp_lexer.proofs.QuoteEnds.{written_closes}
use Rattle.tptp_lexer.proofs.Runs.{Stops, passes_all}

-- a byte of a number
abbrev pub in_number : ℕ → Bool
in_number byte = (is_numeric byte || is_exponent byte) || (is_sign byte || (byte == 46 || byte == 47))

-- a byte that is part of no word and no number
abbrev pub parts : ℕ → Bool
parts byte = not (is_alpha_numeric byte) && not (in_number byte)

-- the text goes on with such a byte
abbrev pub Ends : Text → Type 0
Ends [] = ⊥
Ends (byte ∷ text) = parts byte ≡ true

stops_word : (after : Text) → Ends after → Stops is_alpha_numeric after
stops_word [] ends = absurd ends
stops_word (byte ∷ text) ends = not-true _ (and_parts _ _ ends).0

-- ---- words

pub longest_lower : (style : Style) (first : ℕ) (word after : Text) → is_lower_alpha first ≡ true → list_all is_alpha_numeric word ≡ true → Ends after → IsLongest style (length (first ∷ word)) (first ∷ (word ++ after))
longest_lower style first word after h all ends =
    let len : prefix_len is_alpha_numeric ((first ∷ word) ++ after) ≡ length (first ∷ word) = passes_all is_alpha_numeric (first ∷ word) after (and_from _ _ (lower_first first h) all) (stops_word after ends) in
    found_longest style (first ∷ (word ++ after)) k.Lower (length (first ∷ word)) (front-lower style first (word ++ after) h ∙ ap (Found k.Lower) len)

pub longest_upper : (style : Style) (first : ℕ) (word after : Text) → is_upper_alpha first ≡ true → list_all is_alpha_numeric word ≡ true → Ends after → IsLongest style (length (first ∷ word)) (first ∷ (word ++ after))
longest_upper style first word after h all ends =
    let len : prefix_len is_alpha_numeric ((first ∷ word) ++ after) ≡ length (first ∷ word) = passes_all is_alpha_numeric (first ∷ word) after (and_from _ _ (upper_first first h) all) (stops_word after ends) in
    found_longest style (first ∷ (word ++ after)) k.Upper (length (first ∷ word)) (front-upper style first (word ++ after) h ∙ ap (Found k.Upper) len)

-- a word behind `$` that does not begin with `$`
pub longest_dollar : (style : Style) (first : ℕ) (word after : Text) → first == 36 ≡ false → list_all is_alpha_numeric (first ∷ word) ≡ true → Ends after → IsLongest style (suc (length (first ∷ word))) (36 ∷ first ∷ (word ++ after))
longest_dollar style first word after other all ends =
    let len : prefix_len is_alpha_numeric ((first ∷ word) ++ after) ≡ length (first ∷ word) = passes_all is_alpha_numeric (first ∷ word) after all (stops_word after ends) in
    let found : dollar (first ∷ (word ++ after)) ≡ Found k.Dollar (1 + prefix_len is_alpha_numeric (first ∷ (word ++ after))) =
    (cond-false (first == 36) _ _ other ∙ counted_is k.Dollar 1 (prefix_len is_alpha_numeric (first ∷ (word ++ after))) (omega arith)) in
    let sum : 1 + prefix_len is_alpha_numeric (first ∷ (word ++ after)) ≡ suc (length (first ∷ word)) = omega arith in
    found_longest style (36 ∷ first ∷ (word ++ after)) k.Dollar (suc (length (first ∷ word))) (front-dollar style (first ∷ (word ++ after)) ∙ found ∙ ap (Found k.Dollar) sum)

-- ---- quotes

closed_flat : (quote : ℕ) (written rest : Text) → (quote ∷ (written ++ quote ∷ [])) ++ rest ≡ quote ∷ (written ++ quote ∷ rest)
closed_flat quote written rest = ap (λ z. quote ∷ z) (append_assoc written (quote ∷ []) rest)

quote_length : (quote : ℕ) (written : Text) → length written + 2 ≡ length (quote ∷ (written ++ quote ∷ []))
quote_length quote written = omega (arith, length-append written (quote ∷ []))

pub longest_single : (style : Style) (chars written after : Text) → IsWritten single_quote chars written → 1 ≤ length written → IsLongest style (length (single_quote ∷ (written ++ single_quote ∷ []))) ((single_quote ∷ (written ++ single_quote ∷ [])) ++ after)
longest_single style chars written after w some =
    let found : front_of style ((39 ∷ (written ++ 39 ∷ [])) ++ after) ≡ Found k.Quoted (length written + 2) =
    (ap (front_of style) (closed_flat 39 written after) ∙ front-single style (written ++ 39 ∷ after) ∙ ap (quoted k.Quoted 1) (written_closes 39 refl w after) ∙ grind (arith, nat_tests)) in
    found_longest style ((39 ∷ (written ++ 39 ∷ [])) ++ after) k.Quoted (length (39 ∷ (written ++ 39 ∷ []))) (found ∙ ap (Found k.Quoted) (quote_length 39 written))

pub longest_double : (style : Style) (chars written after : Text) → IsWritten double_quote chars written → IsLongest style (length (double_quote ∷ (written ++ double_quote ∷ []))) ((double_quote ∷ (written ++ double_quote ∷ [])) ++ after)
longest_double style chars written after w =
    let found : front_of style ((34 ∷ (written ++ 34 ∷ [])) ++ after) ≡ Found k.Distinct (length written + 2) =
    (ap (front_of style) (closed_flat 34 written after) ∙ front-double style (written ++ 34 ∷ after) ∙ ap (quoted k.Distinct 0) (written_closes 34 refl w after) ∙ grind (arith, nat_tests)) in
    found_longest style ((34 ∷ (written ++ 34 ∷ [])) ++ after) k.Distinct (length (34 ∷ (written ++ 34 ∷ []))) (found ∙ ap (Found k.Distinct) (quote_length 34 written))

-- ---- marks

front-of_mark : (style : Style) (sign : Sign) (rest : Text) → front_of style (mark_text sign ++ rest) ≡ marked (mark_of (mark_text sign ++ rest))
front-of_mark style m.Open rest = front-mark style 40 rest refl
front-of_mark style m.Close rest = front-mark style 41 rest refl
front-of_mark style m.OpenList rest = front-mark style 91 rest refl
front-of_mark style m.CloseList rest = front-mark style 93 rest refl
front-of_mark style m.Comma rest = front-mark style 44 rest refl
front-of_mark style m.Dot rest = front-mark style 46 rest refl
front-of_mark style m.Colon rest = front-mark style 58 rest refl
front-of_mark style m.Bang rest = front-mark style 33 rest refl
front-of_mark style m.Question rest = front-mark style 63 rest refl
front-of_mark style m.Tilde rest = front-mark style 126 rest refl
front-of_mark style m.Ampersand rest = front-mark style 38 rest refl
front-of_mark style m.Equal rest = front-mark style 61 rest refl
front-of_mark style m.NotEqual rest = front-mark style 33 (61 ∷ rest) refl
front-of_mark style m.Star rest = front-mark style 42 rest refl
front-of_mark style m.Greater rest = front-mark style 62 rest refl
front-of_mark style m.Imp rest = front-mark style 61 (62 ∷ rest) refl
front-of_mark style m.RevImp rest = front-mark style 60 (61 ∷ rest) refl
front-of_mark style m.Iff rest = front-mark style 60 (61 ∷ 62 ∷ rest) refl
front-of_mark style m.Xor rest = front-mark style 60 (126 ∷ 62 ∷ rest) refl
front-of_mark style m.Nand rest = front-mark style 126 (38 ∷ rest) refl
front-of_mark style m.Bar rest = front-mark style 124 rest refl
front-of_mark style m.Nor rest = front-mark style 126 (124 ∷ rest) refl

pub longest_mark : (style : Style) (sign : Sign) (after : Text) → mark_of (mark_text sign ++ after) ≡ Some (sign, length (mark_text sign)) → IsLongest style (length (mark_text sign)) (mark_text sign ++ after)
longest_mark style sign after is = found_longest style (mark_text sign ++ after) (k.Mark sign) (length (mark_text sign)) (front-of_mark style sign after ∙ ap marked is)

-- ---- numbers

digits_in : (digits : Text) → list_all is_numeric digits ≡ true → list_all in_number digits ≡ true
digits_in [] h = refl
digits_in (digit ∷ digits) h =
    let both = and_parts (is_numeric digit) (list_all is_numeric digits) h in
    and_from (in_number digit) (list_all in_number digits) (or_left (is_numeric digit || is_exponent digit) _ (or_left (is_numeric digit) _ both.0)) (digits_in digits both.1)

are_in : (digits : Text) → AreDigits digits → list_all in_number digits ≡ true
are_in [] h = absurd h
are_in (digit ∷ digits) h = digits_in (digit ∷ digits) h

both_in : (a b : Text) → list_all in_number a ≡ true → list_all in_number b ≡ true → list_all in_number (a ++ b) ≡ true
both_in [] b h k = k
both_in (x ∷ a) b h k =
    let parts = and_parts (in_number x) (list_all in_number a) h in
    and_from (in_number x) (list_all in_number (a ++ b)) parts.0 (both_in a b parts.1 k)

sign_in : {sign : Text} → IsSign sign → list_all in_number sign ≡ true
sign_in no_sign = refl
sign_in (one_sign {byte = byte} h) = and_from (in_number byte) true (or_right (is_numeric byte || is_exponent byte) _ (or_left (is_sign byte) _ h)) refl

fraction_in : {fraction : Text} → IsFraction fraction → list_all in_number fraction ≡ true
fraction_in no_fraction = refl
fraction_in (dot_decimal {digits = digits} h) = are_in digits h

exponent_in : {power : Text} → IsExponent power → list_all in_number power ≡ true
exponent_in no_exponent = refl
exponent_in (exponent {byte = byte} sign digits h s d) =
    and_from (in_number byte) (list_all in_number (sign ++ digits)) (or_left (is_numeric byte || is_exponent byte) _ (or_right (is_numeric byte) _ h)) (both_in sign digits (sign_in s) (are_in digits d))

number_in : {number : Text} → IsNumber number → list_all in_number number ≡ true
number_in (rational sign digits below s d b) = both_in sign (digits ++ (47 ∷ below)) (sign_in s) (both_in digits (47 ∷ below) (are_in digits d) (are_in below b))
number_in (decimal sign digits fraction power s d f p) =
    both_in sign (digits ++ (fraction ++ power)) (sign_in s) (both_in digits (fraction ++ power) (are_in digits d) (both_in fraction power (fraction_in f) (exponent_in p)))

-- what passes at the front does not reach past what follows
no_further : (p : ℕ → Bool) (spelling after : Text) (n : ℕ) → list_all p (take n (spelling ++ after)) ≡ true → Stops p after → n ≤ length (spelling ++ after) → n ≤ length spelling
no_further p [] [] n h stops fits = fits
no_further p [] (byte ∷ after) zero h stops fits = omega arith
no_further p [] (byte ∷ after) (suc n) h stops fits = absurd (let yes : p byte ≡ true = (and_parts (p byte) (list_all p (take n after)) h).0 in (let no : true ≡ false = sym yes ∙ stops in cc))
no_further p (byte ∷ spelling) after zero h stops fits = omega arith
no_further p (byte ∷ spelling) after (suc n) h stops fits = (let le : n ≤ length spelling = no_further p spelling after n (and_parts (p byte) (list_all p (take n (spelling ++ after))) h).1 stops (omega arith) in omega arith)

stops_number : (after : Text) → Ends after → Stops in_number after
stops_number [] ends = absurd ends
stops_number (byte ∷ text) ends = not-true _ (and_parts _ _ ends).1

longest_begun : (style : Style) (number after : Text) → IsNumber number → BeginsNumber number → Ends after → IsLongest style (length number) (number ++ after)
longest_begun style [] after h begins ends = absurd begins
longest_begun style (byte ∷ digits) after h begins ends =
    let text = byte ∷ (digits ++ after) in
    let most : length (byte ∷ digits) ≤ number_len text = number_most h after in
    let found : front_of style text ≡ Found k.Number (0 + number_len text) = (front-number style byte (digits ++ after) begins ∙ counted_is k.Number 0 (number_len text) (omega arith)) in
    let taken = number_in (found_number text (λ none. (omega arith))) in
    let least : number_len text ≤ length (byte ∷ digits) = no_further in_number (byte ∷ digits) after (number_len text) taken (stops_number after ends) (number_fits text) in
    let is : 0 + number_len text ≡ length (byte ∷ digits) = omega arith in
    found_longest style text k.Number (length (byte ∷ digits)) (found ∙ ap (Found k.Number) is)

pub longest_number : (style : Style) (number after : Text) → IsNumber number → Ends after → IsLongest style (length number) (number ++ after)
longest_number style number after h ends = longest_begun style number after h (number_begins h) ends

-- ---- comments

pub longest_line : (style : Style) (first : ℕ) (line after : Text) → begins_comment style first ≡ true → list_all is_no_line_feed line ≡ true → IsLongest style (length (first ∷ line)) ((first ∷ line) ++ 10 ∷ after)
longest_line style first line after h all =
    let len : prefix_len is_no_line_feed ((first ∷ line) ++ 10 ∷ after) ≡ length (first ∷ line) = passes_all is_no_line_feed (first ∷ line) (10 ∷ after) (and_from _ _ (in_line_first style first h) all) refl in
    found_longest style ((first ∷ line) ++ 10 ∷ after) k.Comment (length (first ∷ line)) (front-line style first (line ++ 10 ∷ after) h ∙ ap (Found k.Comment) len)

pub longest_block : (style : Style) (body after : Text) → HasNoEnd (body ++ 42 ∷ []) → IsLongest style (length (47 ∷ 42 ∷ (body ++ 42 ∷ 47 ∷ []))) ((47 ∷ 42 ∷ (body ++ 42 ∷ 47 ∷ [])) ++ after)
longest_block style body after clean =
    let spelling = 47 ∷ 42 ∷ (body ++ 42 ∷ 47 ∷ []) in
    let found : front_of style (spelling ++ after) ≡ Found k.Comment (length body + 4) =
    (ap (λ z. front_of style (47 ∷ 42 ∷ z)) (append_assoc body (42 ∷ 47 ∷ []) after) ∙ front-slash style (42 ∷ (body ++ 42 ∷ 47 ∷ after)) ∙ ap commented (comment_end_is body after clean)) in
    let is : length body + 4 ≡ length spelling = omega (arith, length-append body (42 ∷ 47 ∷ [])) in
    found_longest style (spelling ++ after) k.Comment (length spelling) (found ∙ ap (Found k.Comment) is)
