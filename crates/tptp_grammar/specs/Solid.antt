-- Tokens with their places, and which of them are no comments.
use Rattle.std.specs.Prelude.{Bool, if◌then◌else◌, List, [], ◌∷◌}
use Rattle.tptp_lexer.specs.declared.token.Token.{Token}
use Rattle.tptp_lexer.specs.Dots.{is_comment}
use Rattle.tptp_base.specs.declared.place.Place.{Place}

-- a token with its place
abbrev pub Placed : Type 0
Placed = Token × Place

abbrev pub is_remark : Placed → Bool
is_remark entry = is_comment entry.0

-- the tokens that are no comments
abbrev pub solid : List Placed → List Token
solid [] = []
solid (entry ∷ rest) = if is_remark entry then solid rest else entry.0 ∷ solid rest
