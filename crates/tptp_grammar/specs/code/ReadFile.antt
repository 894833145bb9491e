-- What all tokens of a text of the style are read as, as one reader answers it. The first number is the nesting that is
-- left.
use Rattle.std.specs.Prelude.{◌≡◌, ℕ, zero, suc, ◌-◌, if◌then◌else◌, List, [], ◌∷◌, length, Result, Ok, Err}
use Rattle.first_fault.specs.code.Reading.{Cause, Outcome}
use Rattle.tptp_lexer.specs.declared.style.Style.{Style}
use Rattle.tptp_lexer.specs.declared.token.Token.{Token}
use Rattle.tptp_lexer.specs.declared.token.Token.TheVariants.{Comment}
use Rattle.tptp_base.specs.declared.place.Place.{Place}
use Rattle.tptp_base.specs.declared.item.Item.{Item}
use Rattle.tptp_grammar.specs.Faults.{max_nesting}
use Rattle.tptp_grammar.specs.Solid.{Placed, is_remark, solid}
use Rattle.tptp_grammar.specs.code.ReadItems.{item}
use Rattle.tptp_base.specs.declared.item.Item.TheVariants as it

-- the items, or why there are none, with the tokens from there on, comments left out
abbrev pub FileOutcome : Type 0
FileOutcome = Result (List Item) (Cause × List Token)

abbrev pub with_item : Item → FileOutcome → FileOutcome
with_item i (Ok items) = Ok (i ∷ items)
with_item i (Err f) = Err f

abbrev pub followed : Outcome Token Item → (ℕ → FileOutcome) → ℕ → FileOutcome
followed (Ok r) again n = with_item r.0 (again (n - length r.1))
followed (Err f) again n = Err f

-- from a token on that stands between items
abbrev pub started : Style → ℕ → Token → Place → List Placed → (ℕ → FileOutcome) → FileOutcome
started style room (Comment text) place rest again = with_item (it.Comment text) (again 0)
started style room t place rest again = followed (item style room place (t ∷ solid rest)) again (length (solid rest))

-- The second number counts the tokens, comments left out, that are left of the item that was read.
abbrev pub file_from : Style → ℕ → ℕ → List Placed → FileOutcome
file_from style room left [] = Ok []
file_from style room (suc left) (entry ∷ rest) = file_from style room (if is_remark entry then suc left else left) rest
file_from style room zero (entry ∷ rest) = started style room entry.0 entry.1 rest (λ left. file_from style room left rest)

unfoldable pub file : Style → ℕ → List Placed → FileOutcome
file style room ts = file_from style room zero ts

-- the items, and none where they are not read
abbrev pub items_of : FileOutcome → List Item
items_of (Ok items) = items
items_of (Err f) = []

-- the items that the tokens are read as
unfoldable pub items_left : Style → List Placed → List Item
items_left style ts = items_of (file style max_nesting ts)

-- all of them are read
abbrev pub AreRead : Style → List Placed → Type 0
AreRead style ts = file style max_nesting ts ≡ Ok (items_left style ts)
