-- Distinct objects in the items of a model's text. The items have words alone, so each token that is a distinct object is
-- taken as the word with a byte 0 in front of its text.
use Rattle.std.specs.Prelude.{ℕ, ◌==◌, Bool, List, [], ◌∷◌, is_some, Option, Some, None, if◌then◌else◌}

-- the text of the distinct object for which a word stands
abbrev pub object : List ℕ → Option (List ℕ)
object [] = None
object (byte ∷ text) = if byte == 0 then Some text else None

abbrev pub is_distinct : List ℕ → Bool
is_distinct word = is_some (object word)
