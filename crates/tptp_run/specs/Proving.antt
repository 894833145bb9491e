-- How the command `prove` ends: the first fault of the problem is said, or the given formulas are searched for a proof.
-- Then a limit is named, or why there is no proof, or the proof is printed: a derivation from the problem of which a check
-- has verified all.
use Rattle.std.specs.Prelude.{◌≡◌, ◌⊎◌, ℕ, ◌-◌, Bool, true, List, length, codes}
use Rattle.std.specs.declared.option.Option.{Option}
use Rattle.tptp_base.specs.Read.{IsOver}
use Rattle.tptp_base.specs.Store.{Files}
use Rattle.tptp_base.specs.declared.limit.LimitName.{LimitName}
use Rattle.tptp_base.specs.declared.name.Name.{Name}
use Rattle.fof_terms.specs.Vocabulary.{Vocabulary}
use Rattle.kernel.specs.Statements.{Statements}
use Rattle.sort_check.specs.Given.{given_entries}
use Rattle.sort_check.specs.declared.line.Line.{Line}
use Rattle.derivation_check.specs.Claim.{default_word}
use Rattle.derivation_check.specs.Checks.{Checks}
use Rattle.derivation_text.specs.Derivations.{IsDerivation}
use Rattle.derivation_text.specs.declared.derivation.Derivation.{Derivation}
use Rattle.problem_proofs.specs.Posed.{HasSymbols}
use Rattle.problem_proofs.specs.Proved.{IsProved, MayBeOver}
use Rattle.problem_proofs.specs.declared.proved.Proved.{Proved}
use Rattle.problem_proofs.specs.declared.proved.Proved.TheVariants.{Proof, Open}
use Rattle.problem_proofs.specs.declared.proved.Why.{Why}
use Rattle.problem_proofs.specs.declared.proved.Why.TheVariants.{Dry, Full, Heavy, Wide}
use Rattle.read_problems.specs.Denoted.{AfterResolved, AfterDenoted}
use Rattle.read_problems.specs.Ending.{Ending, says}
use Rattle.read_problems.specs.Given.{given_theory}
use Rattle.read_problems.specs.Sources.{given_names, conjecture_marks, has_conjecture}
use Rattle.read_problems.specs.declared.refusals.TheConstants.{TOTAL_SIZE}
use Rattle.tptp_commands.specs.Presented.{proof_text, not_proved, is_over}
use Rattle.tptp_commands.specs.Refuted.{IsInBudget}
use Rattle.tptp_run.specs.Verifying.{asked_by}

-- The text is a derivation from given formulas of this theory, with these names and marks, and a check of it with this
-- limit of a search verifies all, as `verify` does.
pub record IsVerified (problem : List ℕ) (limit : ℕ) (t : Statements) (names : List Name) (marks : List Bool) (conjecture : Bool) (text : List ℕ) : Type 0 where
  pub d : Derivation
  pub w : Vocabulary
  pub is : IsDerivation text names t.vocabulary d w
  pub report : List ℕ
  pub log : List ℕ
  pub checks : Checks (asked_by problem text marks conjecture limit) t d w true report log

-- What is said of the text of a proof, where the problem's files have so many bytes: that it is over a limit on sizes, or
-- else the text itself. Then a check of it verifies all.
abbrev pub SaysProof : List ℕ → ℕ → ℕ → Statements → List Name → List Bool → Bool → List ℕ → Ending → Type 0
SaysProof problem limit read t names marks conjecture text ending =
    ((name : LimitName) × IsOver name (TOTAL_SIZE - read) (length text) × (ending ≡ is_over problem name))
    ⊎ (IsInBudget read (length text) × IsVerified problem limit t names marks conjecture text × (ending ≡ says 0 text))

-- the word for a search that finds no proof
abbrev pub why_word : Why → List ℕ
why_word Dry = codes "dry"
why_word Full = codes "full"
why_word Heavy = codes "heavy"
why_word Wide = codes "wide"

-- what is said of what the search comes to, where the problem denotes these lines
abbrev pub SaysProved : List ℕ → ℕ → ℕ → List Line → Vocabulary → Proved → Ending → Type 0
SaysProved problem limit read lines v (Proof items) ending =
    SaysProof problem limit read (given_theory lines v) (given_names lines) (conjecture_marks lines) (has_conjecture lines) (proof_text problem (default_word (has_conjecture lines)) items) ending
SaysProved problem limit read lines v (Open why) ending = ending ≡ not_proved (why_word why)

-- The given formulas, or a derivation that is found, may be over a limit, and this is said. Or else what the search comes
-- to is said.
abbrev pub SaysSearched : List ℕ → ℕ → ℕ → List Line → Vocabulary → Ending → Type 0
SaysSearched problem limit read lines v ending = ((name : LimitName) × MayBeOver v (given_entries lines) limit name × (ending ≡ is_over problem name))
    ⊎ (HasSymbols v (given_entries lines) × ((proved : Proved) × IsProved v (given_entries lines) problem limit proved × SaysProved problem limit read lines v proved ending))

-- A search keeps so many clauses at most.
abbrev pub EndsProve : Files → Option (List ℕ) → ℕ → List ℕ → Ending → Type 0
EndsProve files root limit problem = AfterResolved files root problem (λ whole. AfterDenoted whole (λ lines v. SaysSearched problem limit whole.read lines v))
