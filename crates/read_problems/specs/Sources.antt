-- What a problem gives to a derivation from it (SZS ontology, refutation): the theory of its given formulas, their
-- names, which of them come of a conjecture, and whether there is one.
use Rattle.std.specs.Prelude.{Bool, true, false, List, map, ◌≡◌, ℕ, Ok}
use Rattle.std.specs.List.{list_any}
use Rattle.tptp_base.specs.declared.item.Role.{Role}
use Rattle.tptp_base.specs.declared.item.Role.TheVariants.{Conjecture, NegatedConjecture}
use Rattle.tptp_base.specs.declared.name.Name.{Name}
use Rattle.sort_check.specs.declared.line.GivenEntry.{GivenEntry}
use Rattle.sort_check.specs.declared.line.Line.{Line}
use Rattle.sort_check.specs.Given.{given_entries}
use Rattle.sort_check.specs.Texts.{is_conjecture, denoted}
use Rattle.std.specs.declared.option.Option.{Option}
use Rattle.tptp_base.specs.Store.{Files}
use Rattle.fof_terms.specs.Vocabulary.{Vocabulary}
use Rattle.kernel.specs.Statements.{Statements}
use Rattle.include_resolve.specs.declared.problem.Problem.{Problem}
use Rattle.include_resolve.specs.Resolved.{Resolves}
use Rattle.read_problems.specs.Given.{given_theory}
use Rattle.read_problems.specs.Denoted.{first_vocabulary}
use Rattle.read_problems.specs.declared.sources.Source.{Source}
use Rattle.sort_check.specs.declared.line.TextKind.TheVariants as kind

-- the theory of entries over this vocabulary
abbrev pub entry_theory : Vocabulary → List GivenEntry → Statements
entry_theory v entries = record { vocabulary = v; formulas = map (λ (entry : GivenEntry). entry.form) entries }

abbrev pub entry_names : List GivenEntry → List Name
entry_names entries = map (λ (entry : GivenEntry). entry.name) entries

-- the names of the given formulas
abbrev pub given_names : List Line → List Name
given_names lines = entry_names (given_entries lines)

-- the role is conjecture or negated_conjecture
abbrev pub is_of_conjecture : Role → Bool
is_of_conjecture Conjecture = true
is_of_conjecture NegatedConjecture = true
is_of_conjecture _ = false

abbrev pub entry_marks : List GivenEntry → List Bool
entry_marks entries = map (λ (entry : GivenEntry). is_of_conjecture entry.role) entries

-- for each given formula whether its role is one of these
abbrev pub conjecture_marks : List Line → List Bool
conjecture_marks lines = entry_marks (given_entries lines)

-- one of the entries comes of a conjecture
abbrev pub have_conjecture : List GivenEntry → Bool
have_conjecture entries = list_any (λ (entry : GivenEntry). is_conjecture entry.role) entries

-- the problem has a conjecture
abbrev pub has_conjecture : List Line → Bool
has_conjecture lines = list_any (λ (line : Line). is_conjecture line.role) lines

-- These lines over this vocabulary give what the source has.
pub record Gives (lines : List Line) (v : Vocabulary) (source : Source) : Type 0 where
  pub theory : source.theory ≡ given_theory lines v
  pub signature : source.signature ≡ v
  pub names : source.names ≡ given_names lines
  pub marks : source.marks ≡ conjecture_marks lines
  pub conjecture : source.has_conjecture ≡ has_conjecture lines

-- the problem denotes lines that give what the source has
abbrev pub IsSourceOf : Problem → Source → Type 0
IsSourceOf whole source = (lines : List Line) × (v : Vocabulary) × (denoted whole.items first_vocabulary kind.Problem ≡ Ok (lines, v)) × Gives lines v source × (source.read ≡ whole.read)

-- the problem in the file gives what the source has
abbrev pub IsSource : Option Files → Option (List ℕ) → List ℕ → Source → Type 0
IsSource told root file source = (whole : Problem) × Resolves told root file (Ok whole) × IsSourceOf whole source
