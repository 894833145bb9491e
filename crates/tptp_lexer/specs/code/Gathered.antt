-- What is taken of the tokens that are found, through a dot.
use Rattle.std.specs.Prelude.{◌≡◌, ℕ, Bool, if◌then◌else◌, List, [], ◌∷◌, ◌++◌}
use Rattle.tptp_base.specs.declared.place.Place.{Place}
use Rattle.tptp_lexer.specs.declared.lexeme.Lexeme.{Lexeme}
use Rattle.tptp_lexer.specs.declared.token.Token.{Token}
use Rattle.tptp_lexer.specs.Bytes.{Text}
use Rattle.tptp_lexer.specs.Dots.{is_comment, through_dot, behind_dot}
use Rattle.tptp_lexer.specs.Lexemes.{IsPlaced, items_of}

-- the tokens with one more, unless it is a comment
abbrev pub kept : Token → List Token → List Token
kept token tokens = if is_comment token then tokens else tokens ++ token ∷ []

-- Of what is found, the tokens through the first dot join those before, and the others are left.
pub record Gathered (words : Bool) (text : Text) (list left : List Lexeme) (before after : List Token) : Type 0 where
  pub taken : (file : ℕ) → after ≡ before ++ through_dot (items_of words file text list)
  pub others : (file : ℕ) → behind_dot (items_of words file text list) ≡ items_of words file text left
  pub placed : (start : Place) → IsPlaced text start list → IsPlaced text start left
