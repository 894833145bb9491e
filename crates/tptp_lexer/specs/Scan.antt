-- What the scanner computes of the bytes at the front of a text. It is no part of the definition of tokens: a list of
-- tokens is seen through it, and the contract of `tokens` says what that list is.
use Rattle.std.specs.Prelude.{ℕ, suc, ◌+◌, Bool, true, false, ◌||◌, ◌&&◌, ◌==◌, if◌then◌else◌, nat_le, []}
use Rattle.std.specs.Prelude.{◌∷◌, drop, slice_index, Option, None, Some, option_map}
use Rattle.std.specs.List.{prefix_len}
use Rattle.tptp_lexer.specs.declared.quotes.Quote.{Quote}
use Rattle.tptp_lexer.specs.declared.quotes.Quote.TheVariants.{Closed, Unclosed, Broken}
use Rattle.tptp_lexer.specs.declared.quotes.Turn.{Turn}
use Rattle.tptp_lexer.specs.declared.quotes.Turn.TheVariants.{Goes, Closes, Breaks}
use Rattle.tptp_lexer.specs.declared.scan.Front.{Front}
use Rattle.tptp_lexer.specs.declared.scan.Front.TheVariants.{Blanks, Token as Found, Open, Nothing}
use Rattle.tptp_lexer.specs.declared.scan.Kind.{Kind}
use Rattle.tptp_lexer.specs.declared.style.Style.{Style}
use Rattle.tptp_lexer.specs.declared.token.Mark.{Mark}
use Rattle.tptp_lexer.specs.Bytes.{Text, is_blank, is_lower_alpha, is_upper_alpha, is_numeric, is_alpha_numeric}
use Rattle.tptp_base.specs.Place.{is_no_line_feed}
use Rattle.tptp_lexer.specs.Comments.{begins_comment}
use Rattle.tptp_lexer.specs.Numbers.{is_sign, is_exponent}
use Rattle.tptp_lexer.specs.Quotes.{is_plain, is_escaped}
use Rattle.tptp_lexer.specs.declared.scan.Kind.TheVariants as k
use Rattle.tptp_lexer.specs.declared.token.Mark.TheVariants as m

-- ---- marks

abbrev pub FoundMark : Type 0
FoundMark = Option (Mark × ℕ)

-- by the first byte alone
abbrev pub single : ℕ → Option Mark
single first =
    if first == 40 then Some m.Open
    else (if first == 41 then Some m.Close
    else (if first == 44 then Some m.Comma
    else (if first == 91 then Some m.OpenList
    else (if first == 93 then Some m.CloseList
    else (if first == 46 then Some m.Dot
    else (if first == 58 then Some m.Colon
    else (if first == 63 then Some m.Question
    else (if first == 38 then Some m.Ampersand
    else (if first == 42 then Some m.Star
    else (if first == 62 then Some m.Greater
    else (if first == 124 then Some m.Bar
    else None)))))))))))

abbrev pub short : Option Mark → FoundMark
short None = None
short (Some mark) = Some (mark, 1)

abbrev pub behind_tilde : ℕ → Mark × ℕ
behind_tilde next = if next == 38 then (m.Nand, 2) else (if next == 124 then (m.Nor, 2) else (m.Tilde, 1))

abbrev pub behind_less : ℕ → ℕ → FoundMark
behind_less next third =
    if next == 61 then Some (if third == 62 then (m.Iff, 3) else (m.RevImp, 2))
    else (if next == 126 && third == 62 then Some (m.Xor, 3) else None)

-- by the first three bytes, of which those behind the end count as 0
abbrev pub mark_at : ℕ → ℕ → ℕ → FoundMark
mark_at first next third =
    if first == 33 then Some (if next == 61 then (m.NotEqual, 2) else (m.Bang, 1))
    else (if first == 61 then Some (if next == 62 then (m.Imp, 2) else (m.Equal, 1))
    else (if first == 126 then Some (behind_tilde next)
    else (if first == 60 then behind_less next third
    else short (single first))))

-- ---- numbers

abbrev pub digits_len : Text → ℕ
digits_len text = prefix_len is_numeric text

abbrev pub sign_len : Text → ℕ
sign_len text = if is_sign (slice_index text 0) then 1 else 0

-- the length with what stands before it, or 0 where it is 0
abbrev pub behind : ℕ → ℕ → ℕ
behind before len = if len == 0 then 0 else before + len

-- one byte and digits, or 0 where no digits follow it
abbrev pub digits_behind : Text → ℕ
digits_behind text = behind 1 (digits_len (drop 1 text))

abbrev pub fraction_len : Text → ℕ
fraction_len text = if slice_index text 0 == 46 then digits_behind text else 0

abbrev pub exponent_len : Text → ℕ
exponent_len text =
    if is_exponent (slice_index text 0) then (let before = 1 + sign_len (drop 1 text) in behind before (digits_len (drop before text))) else 0

abbrev pub tail_len : Text → ℕ
tail_len text =
    if slice_index text 0 == 47 then digits_behind text else (let fraction = fraction_len text in fraction + exponent_len (drop fraction text))

abbrev pub number_behind : ℕ → ℕ → Text → ℕ
number_behind sign digits text = if digits == 0 then 0 else (let whole = sign + digits in whole + tail_len (drop whole text))

abbrev pub number_len : Text → ℕ
number_len text = let sign = sign_len text in number_behind sign (digits_len (drop sign text)) text

-- ---- quotes

abbrev pub turn_of : ℕ → Bool → ℕ → Turn
turn_of quote true byte = if is_escaped quote byte then Goes false else Breaks
turn_of quote false byte =
    if byte == quote then Closes else (if byte == 92 then Goes true else (if is_plain quote byte then Goes false else Breaks))

abbrev pub quote_by : ℕ → Turn → (Bool → Quote) → Quote
quote_by at (Goes escaped) rest = rest escaped
quote_by at Closes rest = Closed at
quote_by at Breaks rest = Broken

-- where the closing quote stands, in a text that begins at `at`
abbrev pub quote_end : ℕ → Bool → ℕ → Text → Quote
quote_end quote escaped at [] = Unclosed
quote_end quote escaped at (byte ∷ text) = quote_by at (turn_of quote escaped byte) (λ next. quote_end quote next (at + 1) text)

-- ---- comments

-- how many bytes stand before the first `*/`
abbrev pub comment_end : Text → Option ℕ
comment_end [] = None
comment_end (byte ∷ text) = if byte == 42 && slice_index text 0 == 47 then Some 0 else option_map suc (comment_end text)

-- ---- what a text begins with

abbrev pub counted : Kind → ℕ → ℕ → Front
counted kind before len = if len == 0 then Nothing else Found kind (before + len)

abbrev pub marked : FoundMark → Front
marked None = Nothing
marked (Some found) = Found (k.Mark found.0) found.1

abbrev pub quoted : Kind → ℕ → Quote → Front
quoted kind least (Closed len) = if nat_le least len then Found kind (len + 2) else Nothing
quoted kind least Unclosed = Open
quoted kind least Broken = Nothing

abbrev pub commented : Option ℕ → Front
commented None = Open
commented (Some len) = Found k.Comment (len + 4)

-- the text behind `$`
abbrev pub dollar : Text → Front
dollar text =
    if slice_index text 0 == 36 then counted k.System 2 (prefix_len is_alpha_numeric (drop 1 text)) else counted k.Dollar 1 (prefix_len is_alpha_numeric text)

-- the text behind `/`
abbrev pub block : Text → Front
block text = if slice_index text 0 == 42 then commented (comment_end (drop 1 text)) else Nothing

unfoldable pub behind_words : Style → Text → Front
behind_words style text =
    let first = slice_index text 0 in
    if first == 36 then dollar (drop 1 text)
    else (if first == 39 then quoted k.Quoted 1 (quote_end 39 false 0 (drop 1 text))
    else (if first == 34 then quoted k.Distinct 0 (quote_end 34 false 0 (drop 1 text))
    else (if begins_comment style first then Found k.Comment (prefix_len is_no_line_feed text)
    else (if first == 47 then block (drop 1 text)
    else marked (mark_at first (slice_index text 1) (slice_index text 2))))))

-- a text that begins with no letter or blank
abbrev pub behind_blanks : Style → Text → Front
behind_blanks style text =
    let first = slice_index text 0 in if is_numeric first || is_sign first then counted k.Number 0 (number_len text) else behind_words style text

unfoldable pub front_of : Style → Text → Front
front_of style text =
    let first = slice_index text 0 in
    if is_lower_alpha first then Found k.Lower (prefix_len is_alpha_numeric text)
    else (if is_upper_alpha first then Found k.Upper (prefix_len is_alpha_numeric text)
    else (if is_blank first then Blanks (prefix_len is_blank text)
    else behind_blanks style text))
