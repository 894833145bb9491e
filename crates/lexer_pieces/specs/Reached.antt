-- How far a text is cut into blanks and tokens that stay what they are, whatever follows it.
use Rattle.std.specs.Prelude.{ℕ, ◌≤◌, List, ◌++◌, drop, length}
use Rattle.tptp_base.specs.declared.place.Place.{Place}
use Rattle.tptp_lexer.specs.declared.style.Style.{Style}
use Rattle.tptp_lexer.specs.declared.token.Token.{Token}
use Rattle.tptp_lexer.specs.Bytes.{Text}
use Rattle.tptp_lexer.specs.Tokenized.{Cut, placed}

-- The text is cut from an offset of a whole text on, up to a later offset and a rest.
abbrev pub IsCut : Style → Text → ℕ → ℕ → Text → Type 0
IsCut style text at end rest = (file : ℕ) (all : Text) → (items : List (Token × Place)) × Cut style (placed file all) at text items end rest

-- The text is cut so up to the offset, whatever follows it.
abbrev pub IsReached : Style → Text → ℕ → Type 0
IsReached style text at = (at ≤ length text) × ((more : Text) → IsCut style (text ++ more) 0 at (drop at text ++ more))
