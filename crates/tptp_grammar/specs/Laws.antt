-- What the laws of the parser's answers say.
use Rattle.std.specs.Prelude.{◌≡◌, ◌⊎◌, ℕ, List, [], Result, Err}
use Rattle.tptp_base.specs.declared.item.Item.{Item}
use Rattle.tptp_base.specs.declared.place.Place.{Place}
use Rattle.tptp_base.specs.declared.place.Region.{Region}
use Rattle.tptp_lexer.specs.declared.style.Style.{Style}
use Rattle.tptp_lexer.specs.Answer.{Reaches}
use Rattle.tptp_lexer.specs.Bytes.{Text}
use Rattle.tptp_grammar.specs.declared.fault.GrammarFault.{GrammarFault}
use Rattle.tptp_grammar.specs.declared.fault.GrammarFault.TheVariants.{Memory}
use Rattle.tptp_grammar.specs.Answers.{Answers}
use Rattle.tptp_grammar.specs.Files.{Spells}
use Rattle.tptp_grammar.specs.Solid.{Placed}

-- Two answers are one, but that memory may be wanting.
abbrev pub IsOne : Result (List Item) GrammarFault → Result (List Item) GrammarFault → Type 0
IsOne answer other = (answer ≡ other) ⊎ ((answer ≡ Err Memory) ⊎ (other ≡ Err Memory))

-- The tokens of a text of the style have an answer other than want of memory.
abbrev pub HasAnswer : Style → List Placed → Place → Type 0
HasAnswer style tokens end = (answer : Result (List Item) GrammarFault) × (answer ≡ Err Memory → ⊥) × Answers style tokens end answer

-- The part of a text is cut into tokens, and they spell these items. Their places are counted in the whole text.
abbrev pub PartSpells : Style → ℕ → Text → Region → List Item → Type 0
PartSpells style file text region items =
    (tokens : List Placed) × (end : Place) × Reaches file text region style tokens end [] × Spells style items tokens
