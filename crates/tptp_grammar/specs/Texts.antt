-- What a region of a text spells: the items that its tokens derive by the productions of the TPTP BNF.
use Rattle.std.specs.Prelude.{ℕ, List, Result, Ok}
use Rattle.tptp_base.specs.declared.item.Item.{Item}
use Rattle.tptp_base.specs.declared.place.Region.{Region}
use Rattle.tptp_lexer.specs.declared.style.Style.{Style}
use Rattle.tptp_lexer.specs.declared.token.Tokens.{Tokens}
use Rattle.tptp_lexer.specs.Answer as lexer
use Rattle.tptp_grammar.specs.declared.fault.GrammarFault.{GrammarFault}
use Rattle.tptp_grammar.specs.Tokens.{Text}
use Rattle.tptp_grammar.specs.Answers.{Answers}

-- the tokens spell these items, or they have the parser's first fault
abbrev pub IsParsed : Tokens → Result (List Item) GrammarFault → Type 0
IsParsed tokens answer = Answers tokens.style tokens.items tokens.end answer

-- The region of the text of the file of this number spells the items, nested no deeper than the limit. It is no longer
-- than a file may be.
pub record SpellsText (file : ℕ) (text : Text) (region : Region) (style : Style) (items : List Item) : Type 0 where
  pub tokens : Tokens
  pub lexed : lexer.Answers file text region style (Ok tokens)
  pub parsed : IsParsed tokens (Ok items)
