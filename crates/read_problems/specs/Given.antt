-- The theory of what a problem gives.
use Rattle.std.specs.Prelude.{◌≡◌, ℕ, List, map, Ok}
use Rattle.std.specs.declared.option.Option.{Option}
use Rattle.tptp_base.specs.Store.{Files}
use Rattle.fof_terms.specs.Vocabulary.{Vocabulary}
use Rattle.kernel.specs.Statements.{Statements}
use Rattle.include_resolve.specs.declared.problem.Problem.{Problem}
use Rattle.include_resolve.specs.Resolved.{Resolves}
use Rattle.sort_check.specs.declared.line.Line.{Line}
use Rattle.sort_check.specs.Texts.{denoted}
use Rattle.sort_check.specs.declared.line.GivenEntry.{GivenEntry}
use Rattle.sort_check.specs.Given.{given_entries}
use Rattle.read_problems.specs.Denoted.{first_vocabulary}
use Rattle.sort_check.specs.declared.line.TextKind.TheVariants as kind

-- the theory of what the lines of a problem give
abbrev pub given_theory : List Line → Vocabulary → Statements
given_theory lines v = record { vocabulary = v; formulas = map (λ (entry : GivenEntry). entry.form) (given_entries lines) }

-- the problem denotes lines that give this theory
abbrev pub IsTheoryOf : Problem → Statements → Type 0
IsTheoryOf whole theory = (lines : List Line) × (v : Vocabulary) × (denoted whole.items first_vocabulary kind.Problem ≡ Ok (lines, v)) × (theory ≡ given_theory lines v)

-- the problem in the file gives this theory, and so many bytes were read
abbrev pub IsGiven : Option Files → Option (List ℕ) → List ℕ → Statements → ℕ → Type 0
IsGiven told root file theory read = (whole : Problem) × Resolves told root file (Ok whole) × IsTheoryOf whole theory × (read ≡ whole.read)
