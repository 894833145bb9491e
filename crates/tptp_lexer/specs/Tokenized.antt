-- The tokens of a text: blanks and tokens in turn, each token the longest that begins at its place.
use Rattle.std.specs.Prelude.{ℕ, ◌+◌, IsTrue, List, [], ◌∷◌, ◌++◌, length, map}
use Rattle.tptp_base.specs.declared.place.Place.{Place}
use Rattle.tptp_base.specs.Place.{place_of}
use Rattle.tptp_lexer.specs.declared.style.Style.{Style}
use Rattle.tptp_lexer.specs.declared.token.Token.{Token}
use Rattle.tptp_lexer.specs.Bytes.{Text, is_blank}
use Rattle.tptp_lexer.specs.Spelled.{Spelled, IsLongest}

-- The text from an offset on is cut into blanks and tokens, up to a later offset and the rest of the text. Of each
-- token and its offset an item is made.
pub data Cut {T : Type 0} (style : Style) (item : Token → ℕ → T) : ℕ → Text → List T → ℕ → Text → Type 0 where
  here : {at : ℕ} {text : Text} → Cut style item at text [] at text
  after_blank : {at end byte : ℕ} {text rest : Text} {items : List T} → IsTrue (is_blank byte) → Cut style item (at + 1) text items end rest → Cut style item at (byte ∷ text) items end rest
  after_token : {at end : ℕ} (spelling : Text) {text rest : Text} {token : Token} {items : List T} → Spelled style token spelling → IsLongest style (length spelling) (spelling ++ text)
      → Cut style item (at + length spelling) text items end rest → Cut style item at (spelling ++ text) (item token at ∷ items) end rest

-- the token with its place
abbrev pub placed : ℕ → Text → Token → ℕ → Token × Place
placed file text token offset = (token, place_of file text offset)

-- the token without its place
abbrev pub bare : Token → ℕ → Token
bare token offset = token

-- items with their places without them
abbrev pub bare_items : List (Token × Place) → List Token
bare_items items = map (λ (item : Token × Place). item.0) items

-- These are the tokens of the text.
abbrev pub Tokenized : Style → Text → List Token → Type 0
Tokenized style text tokens = (end : ℕ) × Cut style bare 0 text tokens end []
