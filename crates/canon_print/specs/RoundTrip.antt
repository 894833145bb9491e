-- Texts that spell items, and items that differ in their places alone.
use Rattle.std.specs.Prelude.{◌≡◌, ℕ, List, [], map, Result, Ok, Err}
use Rattle.tptp_base.specs.declared.place.Place.{Place}
use Rattle.tptp_base.specs.declared.item.Item.{Item}
use Rattle.tptp_lexer.specs.declared.fault.LexFault.{LexFault}
use Rattle.tptp_lexer.specs.declared.style.Style.{Style}
use Rattle.tptp_lexer.specs.declared.token.Tokens.{Tokens}
use Rattle.tptp_lexer.specs.Bytes.{Text}
use Rattle.tptp_lexer.specs.Tokenized.{Cut, placed}
use Rattle.tptp_grammar.specs.declared.fault.GrammarFault.{GrammarFault}
use Rattle.tptp_grammar.specs.Solid.{Placed}
use Rattle.tptp_grammar.specs.Files.{SpellsWithin}
use Rattle.tptp_base.specs.declared.item.Item.TheVariants as item
use Rattle.tptp_lexer.specs.declared.fault.LexFault.TheVariants as lf
use Rattle.tptp_grammar.specs.declared.fault.GrammarFault.TheVariants as gf
use Rattle.tptp_grammar.specs.Answers as grammar

-- the text of the file, of this style, is cut into tokens, and these spell the items, nested no deeper than the limit
abbrev pub TextSpells : Style → ℕ → ℕ → List Item → Text → Type 0
TextSpells style file limit items text = (tokens : List Placed) × (end : ℕ) × Cut style (placed file text) 0 text tokens end [] × SpellsWithin style limit items tokens

-- the item at another place
abbrev pub at_place : Place → Item → Item
at_place place (item.Comment text) = item.Comment text
at_place place (item.Formula formula) = item.Formula (record formula { place = place })
at_place place (item.Include include) = item.Include (record include { place = place })

-- the first place of a file
abbrev pub first_place : Place
first_place = record { file = 0; offset = 0; line = 1; column = 1 }

-- the same items, but for their places
abbrev pub AreSame : List Item → List Item → Type 0
AreSame items others = map (at_place first_place) items ≡ map (at_place first_place) others

-- Some text spells the same items again, but for their places.
abbrev pub SpellsAgain : Style → ℕ → ℕ → List Item → Text → Type 0
SpellsAgain style file limit items text = (again : List Item) × AreSame again items × TextSpells style file limit again text

-- `parse` gave these items, but for their places, or memory was wanting.
abbrev pub ParsesAs : List Item → Result (List Item) GrammarFault → Type 0
ParsesAs items (Ok found) = AreSame found items
ParsesAs items (Err gf.Memory) = Unit {0}
ParsesAs items (Err fault) = ⊥

-- `tokens` gave tokens of which every answer of `parse` is these items, but for their places, or memory was wanting.
abbrev pub ReadsAs : List Item → Result Tokens LexFault → Type 0
ReadsAs items (Ok tokens) = (result : Result (List Item) GrammarFault) → grammar.Answers tokens.style tokens.items tokens.end result → ParsesAs items result
ReadsAs items (Err lf.Memory) = Unit {0}
ReadsAs items (Err fault) = ⊥
