-- What private contracts say, beside the definitions of specs/Words.
use Rattle.std.specs.Prelude.{ℕ, Bool, not}
use Rattle.tptp_lexer.specs.Quotes.{is_escaped}

-- a character that stands for itself between quotes
abbrev pub is_bare : ℕ → ℕ → Bool
is_bare quote char = not (is_escaped quote char)
