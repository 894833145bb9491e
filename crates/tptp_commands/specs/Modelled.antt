-- How the command `model` ends: the first fault of the problem is said, or that of the model's file or its text, or why
-- the text is no model of the problem's signature, or the first given formula that is false in the model, or that all
-- are true.
use Rattle.std.specs.Prelude.{◌≡◌, ◌⊎◌, ℕ, ◌-◌, List, [], ◌∷◌, ◌++◌, length, codes, decimal, if◌then◌else◌, Option}
use Rattle.std.specs.Prelude.{Some, None, Result, Ok, Err}
use Rattle.tptp_base.specs.Store.{Files}
use Rattle.tptp_base.specs.declared.item.Item.{Item}
use Rattle.tptp_base.specs.declared.name.Name.{Name}
use Rattle.tptp_base.specs.declared.place.Place.{Place}
use Rattle.canon_print.specs.Words.{name_text}
use Rattle.tptp_lexer.specs.declared.fault.LexFault.{LexFault}
use Rattle.tptp_lexer.specs.declared.style.Style.TheVariants.{Derivation}
use Rattle.tptp_lexer.specs.declared.token.Tokens.{Tokens}
use Rattle.tptp_grammar.specs.declared.fault.GrammarFault.{GrammarFault}
use Rattle.tptp_grammar.specs.Texts.{IsParsed}
use Rattle.fof_terms.specs.Vocabulary.{Vocabulary}
use Rattle.sort_check.specs.declared.line.GivenEntry.{GivenEntry}
use Rattle.sort_check.specs.Given.{given_entries}
use Rattle.szs_report.specs.Region.{region_of}
use Rattle.szs_report.specs.Report.{text_line}
use Rattle.tptp_lexer.specs.Words.{as_words}
use Rattle.fi_model.specs.declared.fault.ModelFault.{ModelFault}
use Rattle.fi_model.specs.Faults.{IsModelFault}
use Rattle.fi_model.specs.Interpretations.{Interpretation, is_true}
use Rattle.fi_model.specs.Models.{ModelOf}
use Rattle.read_problems.specs.Denoted.{in_line, AfterResolved, AfterDenoted}
use Rattle.read_problems.specs.Ending.{Ending, says, AfterFile}
use Rattle.read_problems.specs.Spelled.{said_at, SaysLexFault, SaysGrammarFault}
use Rattle.read_problems.specs.declared.refusals.TheConstants.{TOTAL_SIZE}
use Rattle.tptp_lexer.specs.Answer as lexer
use Rattle.fi_model.specs.declared.fault.ModelFault.TheVariants as fault

-- ---- the text of a model

-- the part of the text that holds the model has these tokens, or the lexer's first fault
abbrev pub IsModelLexed : List ℕ → Result Tokens LexFault → Type 0
IsModelLexed text answer = lexer.Answers 0 text (region_of text) Derivation answer

-- the tokens with words in place of distinct objects
abbrev pub worded : Tokens → Tokens
worded tokens = record { items = as_words tokens.items; end = tokens.end; style = tokens.style }

-- that part spells the items, nested no deeper than the limit
pub record SpellsModel (text : List ℕ) (items : List Item) : Type 0 where
  pub tokens : Tokens
  pub lexed : IsModelLexed text (Ok tokens)
  pub parsed : IsParsed (worded tokens) (Ok items)

-- The first fault of the text is said: that of its tokens, or else that of its items.
abbrev pub IsModelRefusal : List ℕ → List ℕ → Ending → Type 0
IsModelRefusal name text ending = ((fault : LexFault) × IsModelLexed text (Err fault) × SaysLexFault name fault ending)
    ⊎ ((tokens : Tokens) × (fault : GrammarFault) × IsModelLexed text (Ok tokens) × IsParsed (worded tokens) (Err fault)
    × SaysGrammarFault name fault ending)

-- ---- what is said of it

abbrev pub of_name : List ℕ → List ℕ → Ending
of_name name what = says 1 (text_line (name ++ what))

abbrev pub of_sentence : List ℕ → Place → Name → List ℕ → Ending
of_sentence file place name what = says 1 (said_at file place (in_line name what))

-- why the items are no model
abbrev pub SaysModelFault : List ℕ → ModelFault → Ending → Type 0
SaysModelFault file (fault.Shape place) ending = ending ≡ says 1 (said_at file place (codes "not a model formula"))
SaysModelFault file (fault.Domain name) ending = ending ≡ of_name name (codes ": wrong domain")
SaysModelFault file (fault.Element place name) ending = ending ≡ of_sentence file place name (codes "wrong element")
SaysModelFault file (fault.Double place name) ending = ending ≡ of_sentence file place name (codes "second value")
SaysModelFault file (fault.Missing name) ending = ending ≡ of_name name (codes ": no value for some arguments")
SaysModelFault file fault.Memory ending = ⊥

-- the first of the given formulas that is false
abbrev pub first_false : Interpretation → List GivenEntry → Option GivenEntry
first_false m [] = None
first_false m (entry ∷ entries) = if is_true m [] entry.form then first_false m entries else Some entry

abbrev pub is_false : Name → Ending
is_false name = says 1 (text_line (codes "formula " ++ (name_text name ++ codes " is false")))

abbrev pub are_true : ℕ → Ending
are_true count = says 0 (text_line (codes "model: " ++ (decimal count ++ codes " formulas true")))

abbrev pub verdict : ℕ → Option GivenEntry → Ending
verdict count None = are_true count
verdict count (Some entry) = is_false entry.name

-- The first given formula that is false is said, or how many there are.
abbrev pub SaysFormulas : Interpretation → List GivenEntry → Ending → Type 0
SaysFormulas m entries ending = ending ≡ verdict (length entries) (first_false m entries)

-- what is said of items as a model of a signature with given formulas
abbrev pub SaysItems : List ℕ → Vocabulary → List GivenEntry → List Item → Ending → Type 0
SaysItems file v entries items ending =
    ((fault : ModelFault) × IsModelFault items v fault × SaysModelFault file fault ending)
    ⊎ ((m : Interpretation) × ModelOf items v m × SaysFormulas m entries ending)

-- what is said of the text of a model
abbrev pub SaysModel : List ℕ → Vocabulary → List GivenEntry → List ℕ → Ending → Type 0
SaysModel file v entries text ending =
    IsModelRefusal file text ending
    ⊎ ((items : List Item) × SpellsModel text items × SaysItems file v entries items ending)

-- The model may have as many bytes as the problem leaves of those that a run reads.
abbrev pub EndsModel : Files → Option (List ℕ) → List ℕ → List ℕ → Ending → Type 0
EndsModel files root problem file =
    AfterResolved files root problem (λ whole.
    AfterDenoted whole (λ lines v.
    AfterFile files file (TOTAL_SIZE - whole.read) (SaysModel file v (given_entries lines))))
