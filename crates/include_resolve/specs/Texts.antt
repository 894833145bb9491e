-- What the text of a file spells: the items that its tokens derive by the productions of the TPTP BNF, or the first
-- fault in it. A fault of the tokens comes before each fault of the productions.
use Rattle.std.specs.Prelude.{ℕ, List, Ok, Err}
use Rattle.tptp_base.specs.declared.item.Item.{Item}
use Rattle.tptp_lexer.specs.declared.style.Style.TheVariants.{Problem as ProblemStyle}
use Rattle.tptp_lexer.specs.declared.token.Tokens.{Tokens}
use Rattle.tptp_lexer.specs.Answer.{whole}
use Rattle.tptp_grammar.specs.declared.fault.GrammarFault.{GrammarFault}
use Rattle.tptp_grammar.specs.Texts.{SpellsText}
use Rattle.include_resolve.specs.declared.fault.TextFault.{TextFault}
use Rattle.include_resolve.specs.declared.fault.TextFault.TheVariants.{Lex, Grammar}
use Rattle.include_resolve.specs.Names.{Text}
use Rattle.tptp_lexer.specs.declared.fault.LexFault.TheVariants as lex
use Rattle.tptp_lexer.specs.Answer as lexer
use Rattle.tptp_grammar.specs.declared.fault.GrammarFault.TheVariants as grammar
use Rattle.tptp_grammar.specs.Answers as parser

-- the tokens of the text, with their places in the file of this number
abbrev pub HasTokens : ℕ → Text → Tokens → Type 0
HasTokens number text tokens = lexer.Answers number text (whole text) ProblemStyle (Ok tokens)

-- the text of the file of this number spells these items
abbrev pub IsSpelled : ℕ → Text → List Item → Type 0
IsSpelled number text items = SpellsText number text (whole text) ProblemStyle items

-- the tokens spell nothing, and this is the first fault
abbrev pub IsGrammarFault : Tokens → GrammarFault → Type 0
IsGrammarFault tokens grammar.Memory = ⊥
IsGrammarFault tokens fault = parser.Answers tokens.style tokens.items tokens.end (Err fault)

-- the text of the file of this number spells nothing, and this is the first fault in it
abbrev pub IsFaulty : ℕ → Text → TextFault → Type 0
IsFaulty number text (Lex (lex.Byte place)) = lexer.Answers number text (whole text) ProblemStyle (Err (lex.Byte place))
IsFaulty number text (Lex (lex.Unfinished place)) = lexer.Answers number text (whole text) ProblemStyle (Err (lex.Unfinished place))
IsFaulty number text (Lex other) = ⊥
IsFaulty number text (Grammar fault) = (tokens : Tokens) × HasTokens number text tokens × IsGrammarFault tokens fault
