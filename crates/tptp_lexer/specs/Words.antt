-- Words in the place of distinct objects (TPTP BNF, <distinct_object>: a term), for readers of items that have words
-- alone: the word for a distinct object is its text with a byte 0 in front. No token of a text is a word that begins
-- with this byte, since the bytes of words are printable.
use Rattle.std.specs.Prelude.{List, ◌∷◌, map}
use Rattle.tptp_base.specs.declared.place.Place.{Place}
use Rattle.tptp_lexer.specs.declared.token.Token.{Token}
use Rattle.tptp_lexer.specs.declared.token.Token.TheVariants.{Lower, Quoted, Upper, Dollar, System, Number, Distinct, Comment, Mark}

abbrev pub as_word : Token → Token
as_word (Distinct text) = Quoted (0 ∷ text)
as_word (Lower text) = Lower text
as_word (Quoted text) = Quoted text
as_word (Upper text) = Upper text
as_word (Dollar text) = Dollar text
as_word (System text) = System text
as_word (Number text) = Number text
as_word (Comment text) = Comment text
as_word (Mark mark) = Mark mark

-- the tokens with words in place of distinct objects
abbrev pub as_words : List (Token × Place) → List (Token × Place)
as_words tokens = map (λ t. (as_word t.0, t.1)) tokens
