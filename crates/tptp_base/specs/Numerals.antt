-- The numbers that can be names (TPTP BNF, <integer>): those of a sign and digits alone.
use Rattle.std.specs.Prelude.{ℕ, ◌==◌, ◌||◌, ◌&&◌, nat_lt, if◌then◌else◌, Bool, List, [], ◌∷◌, length}
use Rattle.std.specs.List.{list_all}
use Rattle.std.specs.Char.{is_ascii_digit}

abbrev pub are_digits : List ℕ → Bool
are_digits text = nat_lt 0 (length text) && list_all is_ascii_digit text

-- digits, perhaps behind a sign
abbrev pub is_integer : List ℕ → Bool
is_integer [] = are_digits []
is_integer (byte ∷ rest) = if byte == 43 || byte == 45 then are_digits rest else are_digits (byte ∷ rest)
