-- What the text of a derivation spells: items of the TPTP language, by the tokens of that part of a prover's output
-- that holds the derivation (SZS ontology, output). The tokens have their places in the whole text.
use Rattle.std.specs.Prelude.{⊤, ◌⊎◌, ℕ, List, Result, Ok, Err}
use Rattle.tptp_base.specs.declared.item.Item.{Item}
use Rattle.tptp_lexer.specs.declared.fault.LexFault.{LexFault}
use Rattle.tptp_lexer.specs.declared.style.Style.TheVariants.{Derivation}
use Rattle.tptp_lexer.specs.declared.token.Tokens.{Tokens}
use Rattle.tptp_grammar.specs.Texts.{IsParsed, SpellsText}
use Rattle.szs_report.specs.Region.{region_of}
use Rattle.derivation_text.specs.declared.fault.DerivationFault.{DerivationFault}
use Rattle.tptp_lexer.specs.Answer as lexer
use Rattle.derivation_text.specs.declared.fault.DerivationFault.TheVariants as fault

-- the part has these tokens, or the lexer's first fault
abbrev pub IsRegionLexed : List ℕ → Result Tokens LexFault → Type 0
IsRegionLexed text answer = lexer.Answers 0 text (region_of text) Derivation answer

-- the part spells the items, nested no deeper than the limit
abbrev pub RegionSpells : List ℕ → List Item → Type 0
RegionSpells text items = SpellsText 0 text (region_of text) Derivation items

-- Why a text spells nothing: the first fault of its tokens, or else that of its items. Want of memory is never ruled
-- out.
abbrev pub IsTextFault : List ℕ → DerivationFault → Type 0
IsTextFault text (fault.Lex lexed) = IsRegionLexed text (Err lexed)
IsTextFault text (fault.Grammar parsed) = (tokens : Tokens) × IsRegionLexed text (Ok tokens) × IsParsed tokens (Err parsed)
IsTextFault text (fault.Graph graph) = ⊥
IsTextFault text (fault.Sort sorts) = ⊥
IsTextFault text fault.Memory = ⊤
