-- The tokens through a dot, with which each annotated formula and each include ends.
use Rattle.std.specs.Prelude.{Bool, true, false, if◌then◌else◌, List, [], ◌∷◌}
use Rattle.tptp_base.specs.declared.place.Place.{Place}
use Rattle.tptp_lexer.specs.declared.token.Token.{Token}
use Rattle.tptp_lexer.specs.declared.token.Token.TheVariants.{Comment, Mark as Sign}
use Rattle.tptp_lexer.specs.declared.token.Mark.TheVariants as m

abbrev pub is_comment : Token → Bool
is_comment (Comment text) = true
is_comment _ = false

abbrev pub is_dot : Token → Bool
is_dot (Sign m.Dot) = true
is_dot _ = false

-- the tokens through the first dot, comments left out
abbrev pub through_dot : List (Token × Place) → List Token
through_dot [] = []
through_dot (entry ∷ rest) = if is_comment entry.0 then through_dot rest else (if is_dot entry.0 then entry.0 ∷ [] else entry.0 ∷ through_dot rest)

-- what follows that dot
abbrev pub behind_dot : List (Token × Place) → List (Token × Place)
behind_dot [] = []
behind_dot (entry ∷ rest) = if is_dot entry.0 then rest else behind_dot rest
