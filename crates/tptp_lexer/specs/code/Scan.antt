-- What a private contract says of a quote.
use Rattle.std.specs.Prelude.{ℕ, ◌<◌}
use Rattle.tptp_lexer.specs.declared.quotes.Quote.{Quote}
use Rattle.tptp_lexer.specs.declared.quotes.Quote.TheVariants.{Closed}

-- the closing quote stands before this place
abbrev pub EndsIn : ℕ → Quote → Type 0
EndsIn end (Closed at) = at < end
EndsIn end other = Unit {0}
