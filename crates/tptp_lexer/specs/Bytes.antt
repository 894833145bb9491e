-- The classes of bytes of which tokens are made.
use Rattle.std.specs.Prelude.{ℕ, Bool, ◌||◌, ◌&&◌, ◌==◌, nat_le, List}
use Rattle.std.specs.Char.{is_ascii_lowercase, is_ascii_uppercase, is_ascii_digit}

abbrev pub Text : Type 0
Text = List ℕ

-- white space: a tabulator, the ends of lines and pages, and a space
abbrev pub is_blank : ℕ → Bool
is_blank byte = byte == 32 || (nat_le 9 byte && nat_le byte 13)

-- <lower_alpha>
abbrev pub is_lower_alpha : ℕ → Bool
is_lower_alpha byte = is_ascii_lowercase byte

-- <upper_alpha>
abbrev pub is_upper_alpha : ℕ → Bool
is_upper_alpha byte = is_ascii_uppercase byte

-- <numeric>
abbrev pub is_numeric : ℕ → Bool
is_numeric byte = is_ascii_digit byte

-- <alpha_numeric>: a letter, a digit or `_`
abbrev pub is_alpha_numeric : ℕ → Bool
is_alpha_numeric byte = (is_lower_alpha byte || is_upper_alpha byte) || (is_numeric byte || byte == 95)
