-- What the code that runs one line has done.
use Rattle.std.specs.Prelude.{ℕ, ◌≡◌, ◌<◌, ⊤, List, length, Option}
use Rattle.tptp_base.specs.Sink.{Takes}
use Rattle.kernel.specs.Statements.{Statements}
use Rattle.kernel.specs.Entries.{Admits}
use Rattle.kernel.specs.declared.entry.Entry.{Entry}
use Rattle.proof_log.specs.Entries.{HaveNumbersInRange}
use Rattle.elaborate.specs.declared.answer.StepAnswer.{StepAnswer}
use Rattle.verifier.specs.Lines.{Derivation, Line, IsLineAt, parents_of}
use Rattle.verifier.specs.Logged.{entries_text}
use Rattle.verifier.specs.Run.{Progress, HasRoomAt, IsAnswered, LacksRoom, with_answered}
use Rattle.verifier.specs.declared.answer.LineAnswer.{LineAnswer}
use Rattle.verifier.specs.declared.answer.LineAnswer.TheVariants.{Accepted, Unverified}
use Rattle.elaborate.specs.declared.answer.StepAnswer.TheVariants as step

-- the entries of the answer, if there are any, are legal in turn and lead to a theory that has a formula
abbrev pub CanTake : Statements → StepAnswer → Type 0
CanTake t (step.Accepted rule cites entries) = (u : Statements) × Admits t entries u × (0 < length u.formulas)
CanTake t (step.Unverified reason) = ⊤

-- the answer of a line at this place is taken: its entries, if there are any, are added and logged, and the line has
-- the number of the last formula
abbrev pub TakesAnswer : StepAnswer → Progress → ℕ → LineAnswer → Progress → Option (List ℕ) → Option (List ℕ) → Type 0
TakesAnswer (step.Accepted rule cites entries) old place answer new log_old log_new =
    (answer ≡ Accepted rule cites) × Admits old.theory entries new.theory × (new ≡ with_answered old place new.theory) × Takes log_old log_new (entries_text entries) × HaveNumbersInRange entries
TakesAnswer (step.Unverified reason) old place answer new log_old log_new = (answer ≡ Unverified reason) × (new ≡ old) × (log_new ≡ log_old)

-- there is room for the line at this place, which is answered, and the entries of the answer are logged
pub record RunsLine (d : Derivation) (old : Progress) (place : ℕ) (answer : LineAnswer) (new : Progress) (log_old log_new : Option (List ℕ)) : Type 0 where
  pub line : Line
  pub there : IsLineAt d place line
  pub room : HasRoomAt old.theory d line (parents_of d.given d.forms old.numbers line.node.parents)
  pub entries : List Entry
  pub is : IsAnswered d old place line (parents_of d.given d.forms old.numbers line.node.parents) answer entries new
  pub taken : Takes log_old log_new (entries_text entries)
  pub in_range : HaveNumbersInRange entries

-- there is no room for the line that was looked at, and nothing has happened
abbrev pub StopsAt : Derivation → Progress → ℕ → Progress → Option (List ℕ) → Option (List ℕ) → ℕ → Type 0
StopsAt d old place new log_old log_new at = (at ≡ place) × LacksRoom d old place × (new ≡ old) × (log_new ≡ log_old)
