-- How tokens are found in turn: of each, where it is spelled, and the tokens that are meant by that.
use Rattle.std.specs.Prelude.{◌≡◌, ◌==◌, ◌+◌, ◌-◌, ◌≤◌, ℕ, zero, suc, Bool, true, false, if◌then◌else◌, List, [], ◌∷◌}
use Rattle.std.specs.Prelude.{length, map, take, drop, slice_range, Option, Some, None}
use Rattle.tptp_base.specs.declared.place.Place.{Place}
use Rattle.tptp_base.specs.Place.{place_of}
use Rattle.tptp_lexer.specs.declared.lexeme.Lexeme.{Lexeme}
use Rattle.tptp_lexer.specs.declared.scan.Front.{Front}
use Rattle.tptp_lexer.specs.declared.scan.Front.TheVariants.{Blanks, Token as Found, Open, Nothing}
use Rattle.tptp_lexer.specs.declared.scan.Kind.{Kind}
use Rattle.tptp_lexer.specs.declared.style.Style.{Style}
use Rattle.tptp_lexer.specs.declared.token.Token.{Token}
use Rattle.tptp_lexer.specs.declared.scan.Kind.TheVariants as k
use Rattle.tptp_lexer.specs.declared.token.Token.TheVariants as t
use Rattle.tptp_lexer.specs.Bytes.{Text}
use Rattle.tptp_lexer.specs.Scan.{front_of}

-- the characters that are written so, without the `\` before some
abbrev pub unescaped_from : Bool → Text → Text
unescaped_from escaped [] = []
unescaped_from true (byte ∷ text) = byte ∷ unescaped_from false text
unescaped_from false (byte ∷ text) = if byte == 92 then unescaped_from true text else byte ∷ unescaped_from false text

abbrev pub unescaped : Text → Text
unescaped text = unescaped_from false text

-- what stands between the first and the last byte
abbrev pub inside : Text → Text
inside text = take (length text - 2) (drop 1 text)

-- the characters that are written so between quotes, with the byte 0 in front where `marked` says so
abbrev pub chars_of : Bool → Text → Text
chars_of marked written = if marked then 0 ∷ unescaped written else unescaped written

-- the token of a kind that is spelled so
abbrev pub token_of : Kind → Text → Token
token_of k.Lower text = t.Lower text
token_of k.Quoted text = t.Quoted (unescaped (inside text))
token_of k.Upper text = t.Upper text
token_of k.Dollar text = t.Dollar text
token_of k.System text = t.System text
token_of k.Number text = t.Number text
token_of k.Distinct text = t.Distinct (unescaped (inside text))
token_of k.Comment text = t.Comment text
token_of (k.Mark mark) text = t.Mark mark

-- the bytes of its spelling
abbrev pub spelling : Text → Lexeme → Text
spelling text lexeme = slice_range text lexeme.at (lexeme.at + lexeme.len)

-- the token, with a word in place of a distinct object where `words` says so
abbrev pub taken : Bool → Token → Token
taken words (t.Distinct text) = if words then t.Quoted (0 ∷ text) else t.Distinct text
taken words (t.Lower text) = t.Lower text
taken words (t.Quoted text) = t.Quoted text
taken words (t.Upper text) = t.Upper text
taken words (t.Dollar text) = t.Dollar text
taken words (t.System text) = t.System text
taken words (t.Number text) = t.Number text
taken words (t.Comment text) = t.Comment text
taken words (t.Mark mark) = t.Mark mark

-- the token with its place
abbrev pub item_of : Bool → ℕ → Text → Lexeme → Token × Place
item_of words file text lexeme = (taken words (token_of lexeme.kind (spelling text lexeme)), place_of file text lexeme.at)

abbrev pub items_of : Bool → ℕ → Text → List Lexeme → List (Token × Place)
items_of words file text list = map (item_of words file text) list

-- They follow one another, from one offset up to another.
abbrev pub Follow : ℕ → List Lexeme → ℕ → Type 0
Follow from [] to = from ≤ to
Follow from (lexeme ∷ rest) to = (from ≤ lexeme.at) × Follow (lexeme.at + lexeme.len) rest to

-- They follow one another in the text, behind a place of it.
pub record IsPlaced (text : Text) (start : Place) (list : List Lexeme) : Type 0 where
  pub is_place : start ≡ place_of start.file text start.offset
  pub follow : Follow start.offset list (length text)

-- ---- what is found in a text

-- what is found at an offset, and further on
abbrev pub go_by : ℕ → Front → (ℕ → List Lexeme) → List Lexeme
go_by at (Blanks len) again = again len
go_by at (Found kind len) again = record { kind = kind; len = len; at = at } ∷ again len
go_by at Open again = []
go_by at Nothing again = []

-- what is found in a text that stands at an offset, in so many steps
abbrev pub found_in : Style → ℕ → ℕ → Text → List Lexeme
found_in style zero at text = []
found_in style (suc steps) at [] = []
found_in style (suc steps) at (byte ∷ text) = go_by at (front_of style (byte ∷ text)) (λ len. found_in style steps (at + len) (drop len (byte ∷ text)))

-- what is found from one offset on, up to another
unfoldable pub lexemes : Style → Text → ℕ → ℕ → List Lexeme
lexemes style text end at = found_in style (length (slice_range text at end)) at (slice_range text at end)

-- the next one, if there is one, and those behind it
abbrev pub ahead : Option Lexeme → List Lexeme → List Lexeme
ahead None list = []
ahead (Some lexeme) list = lexeme ∷ list
