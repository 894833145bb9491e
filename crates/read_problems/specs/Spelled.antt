-- What a text in the TPTP language spells, or what is said of the first fault in it.
use Rattle.std.specs.Prelude.{◌≡◌, ◌⊎◌, ℕ, List, ◌++◌, codes, decimal, Result, Ok, Err}
use Rattle.tptp_base.specs.declared.item.Item.{Item}
use Rattle.tptp_base.specs.declared.place.Place.{Place}
use Rattle.tptp_lexer.specs.declared.fault.LexFault.{LexFault}
use Rattle.tptp_lexer.specs.declared.style.Style.TheVariants.{Problem}
use Rattle.tptp_lexer.specs.declared.token.Tokens.{Tokens}
use Rattle.tptp_lexer.specs.Answer.{whole}
use Rattle.tptp_grammar.specs.declared.fault.GrammarFault.{GrammarFault}
use Rattle.tptp_grammar.specs.Texts.{IsParsed, SpellsText}
use Rattle.read_problems.specs.Ending.{Ending, says, over_limit}
use Rattle.szs_report.specs.Report.{text_line}
use Rattle.tptp_lexer.specs.declared.fault.LexFault.TheVariants as lexed
use Rattle.tptp_lexer.specs.Answer as lexer
use Rattle.tptp_grammar.specs.declared.fault.GrammarFault.TheVariants as parsed

-- the line and the column of a place, both from 1 and in bytes
abbrev pub place_text : Place → List ℕ
place_text place = codes ":" ++ (decimal place.line ++ (codes ":" ++ (decimal place.column ++ codes ": ")))

-- what is said of a place: the file's name, the place and the rest
abbrev pub said_at : List ℕ → Place → List ℕ → List ℕ
said_at name place what = text_line (name ++ (place_text place ++ what))

-- what is said where a text has no tokens
abbrev pub SaysLexFault : List ℕ → LexFault → Ending → Type 0
SaysLexFault name (lexed.Byte place) ending = ending ≡ says 3 (said_at name place (codes "no token begins here"))
SaysLexFault name (lexed.Unfinished place) ending = ending ≡ says 3 (said_at name place (codes "unfinished quote or comment"))
SaysLexFault name (lexed.Limit limit) ending = ending ≡ over_limit name limit
SaysLexFault name lexed.Memory ending = ⊥

-- what is said where tokens spell nothing
abbrev pub SaysGrammarFault : List ℕ → GrammarFault → Ending → Type 0
SaysGrammarFault name (parsed.Token place) ending = ending ≡ says 3 (said_at name place (codes "unexpected token"))
SaysGrammarFault name (parsed.Profile place) ending = ending ≡ says 3 (said_at name place (codes "not in this profile"))
SaysGrammarFault name (parsed.End place) ending = ending ≡ says 3 (said_at name place (codes "unexpected end"))
SaysGrammarFault name (parsed.Deep place) ending = ending ≡ says 7 (said_at name place (codes "limit nesting"))
SaysGrammarFault name parsed.Memory ending = ⊥

-- the whole text of a problem has these tokens, or the lexer's first fault
abbrev pub IsLexed : List ℕ → Result Tokens LexFault → Type 0
IsLexed text answer = lexer.Answers 0 text (whole text) Problem answer

-- the whole text of a problem spells the items, nested no deeper than the limit
abbrev pub SpellsItems : List ℕ → List Item → Type 0
SpellsItems text items = SpellsText 0 text (whole text) Problem items

-- The first fault of a text is said: that of its tokens, or else that of its items.
abbrev pub IsTextRefusal : List ℕ → List ℕ → Ending → Type 0
IsTextRefusal name text ending = ((fault : LexFault) × IsLexed text (Err fault) × SaysLexFault name fault ending)
    ⊎ ((tokens : Tokens) × (fault : GrammarFault) × IsLexed text (Ok tokens) × IsParsed tokens (Err fault) × SaysGrammarFault name fault ending)

-- What the text of a file spells goes on to the rest, or its first fault is said.
abbrev pub AfterItems : List ℕ → List ℕ → (List Item → Ending → Type 0) → Ending → Type 0
AfterItems name text Rest ending = IsTextRefusal name text ending ⊎ ((items : List Item) × SpellsItems text items × Rest items ending)
