-- A lexer that is fed with the pieces of a text, and what the pieces so far show of every text that begins with them.
use Rattle.std.specs.Prelude.{◌≡◌, ◌<◌, ◌≤◌, ◌++◌, ℕ, List, [], ◌∷◌, length, Option, None}
use Rattle.tptp_base.specs.declared.limit.LimitName.TheVariants.{FileSize}
use Rattle.tptp_base.specs.declared.place.Place.{Place}
use Rattle.tptp_base.specs.declared.read.TheConstants.{FILE_SIZE}
use Rattle.tptp_lexer.specs.declared.fault.LexFault.{LexFault}
use Rattle.tptp_lexer.specs.declared.fault.LexFault.TheVariants.{Byte, Unfinished, Limit, Memory}
use Rattle.tptp_lexer.specs.declared.style.Style.{Style}
use Rattle.tptp_lexer.specs.declared.token.Token.{Token}
use Rattle.tptp_lexer.specs.Answer.{BeginsNothing, Reaches, whole}
use Rattle.tptp_lexer.specs.Bytes.{Text}

-- The pieces that a lexer has taken, joined, and the fault that it answers from then on, if there is one.
pub record Fed : Type 0 where
  pub file : ℕ
  pub style : Style
  pub text : Text
  pub fault : Option LexFault

-- At this first place of the text no token, blank or comment begins.
abbrev pub StopsAt : ℕ → Style → Text → Place → Type 0
StopsAt file style text place = (items : List (Token × Place)) × (rest : Text) × Reaches file text (whole text) style items place rest × BeginsNothing style rest

-- So it is, however the text goes on.
abbrev pub StopsAnyway : ℕ → Style → Text → Place → Type 0
StopsAnyway file style text place = (more : Text) → StopsAt file style (text ++ more) place

-- The text shows this fault: it is too long, or it stops, however it goes on.
abbrev pub Shows : ℕ → Style → Text → LexFault → Type 0
Shows file style text (Byte place) = (length text ≤ FILE_SIZE) × StopsAnyway file style text place
Shows file style text (Limit limit) = (FILE_SIZE < length text) × (limit ≡ FileSize)
Shows file style text (Unfinished place) = ⊥
Shows file style text Memory = Unit {0}

-- The text is within the limit, and may go on so that it does not stop.
pub record ShowsNone (file : ℕ) (style : Style) (text : Text) : Type 0 where
  pub fits : length text ≤ FILE_SIZE
  pub goes_on : (place : Place) → StopsAnyway file style text place → ⊥

-- A lexer that has seen nothing.
abbrev pub unfed : ℕ → Style → Fed
unfed file style = record { file = file; style = style; text = []; fault = None }

-- The lexer takes a further piece.
abbrev pub Takes : Fed → Text → Fed → Type 0
Takes old piece new = (old.fault ≡ None) × (new ≡ record old { text = old.text ++ piece }) × ShowsNone new.file new.style new.text

-- It takes these pieces in turn.
abbrev pub TakesAll : Fed → List Text → Fed → Type 0
TakesAll old [] new = old ≡ new
TakesAll old (piece ∷ pieces) new = (next : Fed) × Takes old piece next × TakesAll next pieces new
