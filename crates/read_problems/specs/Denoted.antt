-- What a problem with its includes gives, or what is said of the first fault in it.
use Rattle.std.specs.Prelude.{◌≡◌, ◌⊎◌, ℕ, List, ◌∷◌, ◌++◌, codes, get_or, Option, Some, Ok, Err}
use Rattle.tptp_base.specs.declared.limit.LimitName.TheVariants.{IncludeDepth}
use Rattle.tptp_base.specs.declared.name.Name.{Name}
use Rattle.tptp_base.specs.declared.place.Place.{Place}
use Rattle.tptp_base.specs.Store.{Files}
use Rattle.canon_print.specs.Words.{name_text}
use Rattle.fof_terms.specs.Vocabulary.{Vocabulary}
use Rattle.include_resolve.specs.declared.fault.IncludeFault.{IncludeFault}
use Rattle.include_resolve.specs.declared.fault.TextFault.{TextFault}
use Rattle.include_resolve.specs.declared.fault.TextFault.TheVariants.{Lex, Grammar}
use Rattle.include_resolve.specs.declared.problem.Problem.{Problem}
use Rattle.include_resolve.specs.Resolved.{Resolves}
use Rattle.sort_check.specs.declared.fault.SortFault.{SortFault}
use Rattle.sort_check.specs.declared.fault.SortRule.{SortRule}
use Rattle.sort_check.specs.declared.line.Line.{Line}
use Rattle.sort_check.specs.Texts.{denoted}
use Rattle.read_problems.specs.Ending.{Ending, says, no_such_file, limit_text, over_limit}
use Rattle.szs_report.specs.Report.{text_line}
use Rattle.read_problems.specs.Spelled.{said_at, SaysLexFault, SaysGrammarFault}
use Rattle.include_resolve.specs.declared.fault.IncludeFault.TheVariants as included
use Rattle.sort_check.specs.declared.fault.SortFault.TheVariants as sorted
use Rattle.sort_check.specs.declared.fault.SortRule.TheVariants as rule
use Rattle.sort_check.specs.declared.line.TextKind.TheVariants as kind

-- ---- includes

-- what is said of a fault in the text of a file
abbrev pub SaysTextFault : List ℕ → TextFault → Ending → Type 0
SaysTextFault name (Lex fault) ending = SaysLexFault name fault ending
SaysTextFault name (Grammar fault) ending = SaysGrammarFault name fault ending

abbrev pub include_cycle : List ℕ → Ending
include_cycle name = says 3 (text_line (name ++ codes ": include cycle"))

abbrev pub no_formula : List ℕ → Name → Ending
no_formula file name = says 3 (text_line (file ++ (codes ": no formula " ++ (name_text name ++ codes " to select"))))

-- what is said of the first fault on the walk through the files
abbrev pub SaysIncludeFault : IncludeFault → Ending → Type 0
SaysIncludeFault (included.Missing written) ending = ending ≡ no_such_file written
SaysIncludeFault (included.Cycle name) ending = ending ≡ include_cycle name
SaysIncludeFault (included.DeepInclude name) ending = ending ≡ over_limit name IncludeDepth
SaysIncludeFault (included.UnknownSelection file name) ending = ending ≡ no_formula file name
SaysIncludeFault (included.Text file fault) ending = SaysTextFault file fault ending
SaysIncludeFault (included.Limit file limit) ending = ending ≡ over_limit file limit
SaysIncludeFault included.Store ending = ⊥
SaysIncludeFault included.Memory ending = ⊥

-- ---- sorts

-- what is said of the rule that a line is against
abbrev pub rule_text : SortRule → List ℕ
rule_text rule.FreeVariable = codes "free variable"
rule_text rule.Arity = codes "wrong arity or kind"
rule_text rule.WrongSort = codes "wrong sort"
rule_text rule.Redeclared = codes "declared again"
rule_text rule.UnknownSort = codes "unknown sort"
rule_text rule.NotTyped = codes "type outside tff"
rule_text rule.TwoConjectures = codes "second conjecture"
rule_text rule.Variables = codes "limit variables"
rule_text (rule.Limit limit) = codes "limit " ++ limit_text limit

-- the status that goes with it: 7 for a limit, and 3 otherwise
abbrev pub rule_status : SortRule → ℕ
rule_status rule.Variables = 7
rule_status (rule.Limit limit) = 7
rule_status _ = 3

-- the name of the file of a place, as it was opened
abbrev pub file_of : List (List ℕ) → Place → List ℕ
file_of files place = get_or files place.file (codes "")

-- what is said in a line of this name
abbrev pub in_line : Name → List ℕ → List ℕ
in_line name what = codes "in " ++ (name_text name ++ (codes ": " ++ what))

-- what is said of a line in the file that is against the rule: the place and the name of the line, and the rule
abbrev pub against_rule : List ℕ → SortRule → Place → Name → Ending
against_rule file rule place name = says (rule_status rule) (said_at file place (in_line name (rule_text rule)))

-- what is said of the first fault against the rules of sorts
abbrev pub SaysSortFault : List (List ℕ) → SortFault → Ending → Type 0
SaysSortFault files (sorted.Line rule place name) ending = ending ≡ against_rule (file_of files place) rule place name
SaysSortFault files sorted.Memory ending = ⊥

-- ---- both

-- the signature that a text begins with: the sort of individuals alone
abbrev pub first_vocabulary : Vocabulary
first_vocabulary = record { sorts = codes "$i" ∷ List.[]; symbols = List.[] }

-- What a problem denotes goes on to the rest, or its first fault against the rules of sorts is said.
abbrev pub AfterDenoted : Problem → (List Line → Vocabulary → Ending → Type 0) → Ending → Type 0
AfterDenoted problem Rest ending = ((fault : SortFault) × (denoted problem.items first_vocabulary kind.Problem ≡ Err fault) × SaysSortFault problem.files fault ending)
    ⊎ ((lines : List Line) × (v : Vocabulary) × (denoted problem.items first_vocabulary kind.Problem ≡ Ok (lines, v)) × Rest lines v ending)

-- What the file gives with all that it includes goes on to the rest, or the first fault on the walk through the files
-- is said.
abbrev pub AfterResolved : Files → Option (List ℕ) → List ℕ → (Problem → Ending → Type 0) → Ending → Type 0
AfterResolved files root file Rest ending = ((fault : IncludeFault) × Resolves (Some files) root file (Err fault) × SaysIncludeFault fault ending)
    ⊎ ((problem : Problem) × Resolves (Some files) root file (Ok problem) × Rest problem ending)

-- The first fault of the problem in the file is said: that of the walk through the files, or else that against the
-- rules of sorts.
abbrev pub IsProblemRefusal : Option Files → Option (List ℕ) → List ℕ → Ending → Type 0
IsProblemRefusal told root file ending = ((fault : IncludeFault) × Resolves told root file (Err fault) × SaysIncludeFault fault ending)
    ⊎ ((problem : Problem) × Resolves told root file (Ok problem) × ((fault : SortFault) × (denoted problem.items first_vocabulary kind.Problem ≡ Err fault) × SaysSortFault problem.files fault ending))
