-- What one step of the lexer does: it passes over a run of blanks, or takes the longest token at its offset.
use Rattle.std.specs.Prelude.{◌≡◌, ◌<◌, ◌≤◌, ℕ, false, List, ◌++◌, slice_range, Result, Ok, Err}
use Rattle.tptp_base.specs.declared.place.Place.{Place}
use Rattle.tptp_base.specs.Place.{place_of}
use Rattle.tptp_lexer.specs.declared.fault.LexFault.{LexFault}
use Rattle.tptp_lexer.specs.declared.fault.LexFault.TheVariants.{Byte, Unfinished, Limit, Memory}
use Rattle.tptp_lexer.specs.declared.lexeme.Lexeme.{Lexeme}
use Rattle.tptp_lexer.specs.declared.style.Style.{Style}
use Rattle.tptp_lexer.specs.declared.token.Token.{Token}
use Rattle.tptp_lexer.specs.Answer.{BeginsNothing, IsOpen}
use Rattle.tptp_lexer.specs.Bytes.{Text}
use Rattle.tptp_lexer.specs.Tokenized.{Cut, placed}
use Rattle.tptp_lexer.specs.Lexemes.{items_of, Follow, lexemes}

-- the tokens that are found there
abbrev pub found : ℕ → Text → List Lexeme → List (Token × Place)
found file text list = items_of false file text list

-- The step led from one offset to the next.
pub record Takes (style : Style) (file : ℕ) (text : Text) (end at next : ℕ) : Type 0 where
  pub more : List Lexeme
  pub scanned : lexemes style text end at ≡ more ++ lexemes style text end next
  pub cut : Cut style (placed file text) at (slice_range text at end) (found file text more) next (slice_range text next end)
  pub follow : Follow at more next
  pub moves : at < next
  pub within : next ≤ end

-- what the answer of a step says
abbrev pub Stepped : Style → ℕ → Text → ℕ → ℕ → Result ℕ LexFault → Type 0
Stepped style file text end at (Ok next) = Takes style file text end at next
Stepped style file text end at (Err (Byte place)) = (place ≡ place_of file text at) × BeginsNothing style (slice_range text at end)
Stepped style file text end at (Err (Unfinished place)) = (place ≡ place_of file text at) × IsOpen (slice_range text at end)
Stepped style file text end at (Err (Limit limit)) = ⊥
Stepped style file text end at (Err Memory) = Unit {0}
