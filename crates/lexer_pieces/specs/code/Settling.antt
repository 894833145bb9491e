-- Which tokens at the front of a text stay, whatever follows the text.
use Rattle.std.specs.Prelude.{◌≡◌, ◌==◌, ◌+◌, ◌≤◌, ◌⊎◌, ◌&&◌, ◌||◌, not, ℕ, Bool, true, false, [], ◌∷◌, ◌++◌, drop, length}
use Rattle.tptp_lexer.specs.declared.scan.Kind.{Kind}
use Rattle.tptp_lexer.specs.declared.scan.Kind.TheVariants as k
use Rattle.tptp_lexer.specs.declared.style.Style.{Style}
use Rattle.tptp_lexer.specs.Answer.{BeginsNothing, IsOpen}
use Rattle.tptp_lexer.specs.Bytes.{Text}
use Rattle.tptp_lexer.specs.Numbers.{is_sign, is_exponent}
use Rattle.lexer_pieces.specs.Reached.{IsCut}
use Rattle.lexer_pieces.specs.declared.settle.Settled.{Settled}
use Rattle.lexer_pieces.specs.declared.settle.Settled.TheVariants.{On, Waits, Stops}

-- a text that is no token, and begins tokens: a sign, `$`, `/`, `<`, `$$`, `<~`
abbrev pub may_grow : Text → Bool
may_grow [] = false
may_grow (first ∷ []) = is_sign first || (first == 36 || (first == 47 || first == 60))
may_grow (first ∷ second ∷ []) = (first == 36 && second == 36) || (first == 60 && second == 126)
may_grow (first ∷ second ∷ third ∷ text) = false

-- what may stand behind a number as a part of a longer one: nothing, `.`, `/`, an exponent's letter, a sign, or both
abbrev pub begins_tail : Text → Bool
begins_tail [] = true
begins_tail (first ∷ []) = (first == 46 || first == 47) || (is_exponent first || is_sign first)
begins_tail (first ∷ second ∷ []) = is_exponent first && is_sign second
begins_tail (first ∷ second ∷ third ∷ text) = false

-- something stands behind the token, and it is no beginning of a number's tail where the token is a number
abbrev pub is_settled : Kind → Text → Bool
is_settled kind [] = false
is_settled k.Number (byte ∷ text) = not (begins_tail (byte ∷ text))
is_settled k.Lower (byte ∷ text) = true
is_settled k.Quoted (byte ∷ text) = true
is_settled k.Upper (byte ∷ text) = true
is_settled k.Dollar (byte ∷ text) = true
is_settled k.System (byte ∷ text) = true
is_settled k.Distinct (byte ∷ text) = true
is_settled k.Comment (byte ∷ text) = true
is_settled (k.Mark mark) (byte ∷ text) = true

-- What stands at the front of a text that goes on: so many bytes stay what they are, more is needed, or nothing begins.
abbrev pub Settles : Style → Text → Settled → Type 0
Settles style text (On len) = (1 ≤ len) × (len ≤ length text) × ((at : ℕ) (more : Text) → IsCut style (text ++ more) at (at + len) (drop len text ++ more))
Settles style text Waits = (more : Text) × ((at : ℕ) → (end : ℕ) × (last : Text) × IsCut style (text ++ more) at end last × ((last ≡ []) ⊎ IsOpen last))
Settles style text Stops = (more : Text) → BeginsNothing style (text ++ more)
