-- What the lexer answers: the tokens of a part of a text, or the first fault in it.
use Rattle.std.specs.Prelude.{◌≡◌, ◌<◌, ◌≤◌, ◌-◌, ℕ, IsTrue, List, [], ◌∷◌, length, slice_range, ◌⊎◌, Result, Ok, Err}
use Rattle.tptp_base.specs.declared.limit.LimitName.TheVariants.{FileSize}
use Rattle.tptp_base.specs.declared.place.Place.{Place}
use Rattle.tptp_base.specs.declared.place.Region.{Region}
use Rattle.tptp_base.specs.declared.read.TheConstants.{FILE_SIZE}
use Rattle.tptp_base.specs.Place.{place_of}
use Rattle.tptp_lexer.specs.declared.fault.LexFault.{LexFault}
use Rattle.tptp_lexer.specs.declared.fault.LexFault.TheVariants.{Byte, Unfinished, Limit, Memory}
use Rattle.tptp_lexer.specs.declared.style.Style.{Style}
use Rattle.tptp_lexer.specs.declared.token.Token.{Token}
use Rattle.tptp_lexer.specs.declared.token.Tokens.{Tokens}
use Rattle.tptp_lexer.specs.Bytes.{Text, is_blank}
use Rattle.tptp_lexer.specs.Comments.{IsOpenComment}
use Rattle.tptp_lexer.specs.Quotes.{IsOpenQuote, single_quote, double_quote}
use Rattle.tptp_lexer.specs.Spelled.{BeginsToken}
use Rattle.tptp_lexer.specs.Tokenized.{Cut, placed, bare_items}

-- A quote or block comment begins the text, and is open at its end.
abbrev pub IsOpen : Text → Type 0
IsOpen text = IsOpenQuote single_quote text ⊎ (IsOpenQuote double_quote text ⊎ IsOpenComment text)

-- A blank begins the text.
abbrev pub BeginsBlank : Text → Type 0
BeginsBlank text = (byte : ℕ) × (rest : Text) × IsTrue (is_blank byte) × (text ≡ byte ∷ rest)

-- The text goes on, and nothing begins it: no blank, token or comment, and no open quote or comment.
pub record BeginsNothing (style : Style) (text : Text) : Type 0 where
  pub goes_on : text ≡ [] → ⊥
  pub no_blank : BeginsBlank text → ⊥
  pub no_token : BeginsToken style text → ⊥
  pub no_open : IsOpen text → ⊥

-- a text as a region of itself
abbrev pub whole : Text → Region
whole text = record { start = 0; end = length text }

-- the bytes of a part of a text
abbrev pub part : Text → Region → Text
part text region = slice_range text region.start region.end

-- The region lies within the text.
pub record IsWithin (text : Text) (region : Region) : Type 0 where
  pub ordered : region.start ≤ region.end
  pub ended : region.end ≤ length text

-- Blanks and tokens lead from the region's start to this rest of it, which begins at this place of the whole text.
abbrev pub Reaches : ℕ → Text → Region → Style → List (Token × Place) → Place → Text → Type 0
Reaches file text region style items place rest = (offset : ℕ) × Cut style (placed file text) region.start (part text region) items offset rest × (place ≡ place_of file text offset)

-- This is the answer for the region. Want of memory may stand for any answer.
abbrev pub Answers : ℕ → Text → Region → Style → Result Tokens LexFault → Type 0
Answers file text region style (Ok tokens) = (region.end - region.start ≤ FILE_SIZE) × (tokens.style ≡ style) × Reaches file text region style tokens.items tokens.end []
Answers file text region style (Err (Byte place)) =
    (region.end - region.start ≤ FILE_SIZE) × (items : List (Token × Place)) × (rest : Text) × Reaches file text region style items place rest × BeginsNothing style rest
Answers file text region style (Err (Unfinished place)) =
    (region.end - region.start ≤ FILE_SIZE) × (items : List (Token × Place)) × (rest : Text) × Reaches file text region style items place rest × IsOpen rest
Answers file text region style (Err (Limit limit)) = (FILE_SIZE < region.end - region.start) × (limit ≡ FileSize)
Answers file text region style (Err Memory) = Unit {0}

-- Two answers are one, but that memory may be wanting.
abbrev pub IsOne : Result Tokens LexFault → Result Tokens LexFault → Type 0
IsOne answer other = (answer ≡ other) ⊎ ((answer ≡ Err Memory) ⊎ (other ≡ Err Memory))

-- The region has an answer other than want of memory.
abbrev pub HasAnswer : ℕ → Text → Region → Style → Type 0
HasAnswer file text region style = (answer : Result Tokens LexFault) × (answer ≡ Err Memory → ⊥) × Answers file text region style answer

-- The answer has these tokens, but that memory may be wanting.
abbrev pub Gives : List Token → Result Tokens LexFault → Type 0
Gives tokens (Ok answer) = bare_items answer.items ≡ tokens
Gives tokens (Err Memory) = Unit {0}
Gives tokens (Err fault) = ⊥
