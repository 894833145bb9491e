-- What private contracts say, beside the definitions of specs/Answers.
use Rattle.std.specs.Prelude.{◌≡◌, ◌⊎◌, if◌then◌else◌, ℕ, ◌+◌, List, ◌∷◌, length, Option, Some, None, Ok}
use Rattle.tptp_lexer.specs.declared.style.Style.{Style}
use Rattle.tptp_lexer.specs.declared.token.Token.{Token}
use Rattle.tptp_lexer.specs.declared.token.Token.TheVariants.{Comment}
use Rattle.tptp_base.specs.declared.place.Place.{Place}
use Rattle.tptp_base.specs.declared.item.Item.{Item}
use Rattle.tptp_grammar.specs.declared.stop.Stop.{Stop}
use Rattle.tptp_grammar.specs.declared.fault.GrammarFault.{GrammarFault}
use Rattle.tptp_grammar.specs.Solid.{Placed}
use Rattle.tptp_grammar.specs.Faults.{max_nesting, is_outside}
use Rattle.tptp_lexer.specs.Dots.{through_dot, behind_dot}
use Rattle.tptp_grammar.specs.code.Outcomes.{Fails}
use Rattle.tptp_grammar.specs.code.ReadItems.{item}
use Rattle.tptp_base.specs.declared.item.Item.TheVariants as it
use Rattle.tptp_grammar.specs.declared.stop.Stop.TheVariants as stop
use Rattle.tptp_grammar.specs.declared.fault.GrammarFault.TheVariants as fault

-- ---- what the parser's own functions answer

-- An item is read from the tokens through the first dot.
abbrev pub ItemRead : Style → Token → Place → List Placed → Item → List Placed → Type 0
ItemRead style t place rest i new = (new ≡ behind_dot rest) × (left : List Token) × (item style max_nesting place (t ∷ through_dot rest) ≡ Ok (i, left))

-- No item is read from these tokens. The reader stops behind so many of them.
pub record ItemFails (style : Style) (t : Token) (place : Place) (rest : List Placed) (reason : Stop) (taken : ℕ) : Type 0 where
  pub left : List Token
  pub fails : Fails (item style max_nesting place (t ∷ through_dot rest)) reason left
  pub count : taken + length left ≡ length (t ∷ through_dot rest)

-- memory is wanting, or an item's reader stops
abbrev pub Refuses : Style → Token → Place → List Placed → Stop → ℕ → Type 0
Refuses style t place rest reason taken = (reason ≡ stop.Memory) ⊎ ItemFails style t place rest reason taken

-- a comment, or an item, from its first token on
abbrev pub Starts : Style → Token → Place → List Placed → Item → List Placed → Type 0
Starts style (Comment text) place rest i new = (i ≡ it.Comment text) × (new ≡ rest)
Starts style t place rest i new = ItemRead style t place rest i new

abbrev pub StartFails : Style → Token → Place → List Placed → Stop → ℕ → Type 0
StartFails style (Comment text) place rest reason taken = reason ≡ stop.Memory
StartFails style t place rest reason taken = Refuses style t place rest reason taken

abbrev pub refusal_at : Option Placed → Place → GrammarFault
refusal_at (Some entry) end = if is_outside entry.0 then fault.Profile entry.1 else fault.Token entry.1
refusal_at None end = fault.End end

abbrev pub depth_at : Option Placed → Place → GrammarFault
depth_at (Some entry) end = fault.Deep entry.1
depth_at None end = fault.Deep end

-- the fault of a reader that stops before this token
abbrev pub fault_of : Stop → Option Placed → Place → GrammarFault
fault_of stop.Memory entry end = fault.Memory
fault_of stop.Unexpected entry end = refusal_at entry end
fault_of stop.TooDeep entry end = depth_at entry end
