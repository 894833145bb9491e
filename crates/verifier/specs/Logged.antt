-- What a log has taken of entries: their lines, without the first line of the log.
use Rattle.std.specs.Prelude.{ℕ, ◌≡◌, List}
use Rattle.std.specs.List.{flat_map}
use Rattle.std.specs.declared.option.Option.{Option}
use Rattle.tptp_base.specs.Sink.{Takes, TakesPrefix}
use Rattle.kernel.specs.Statements.{Statements}
use Rattle.kernel.specs.Entries.{Admits}
use Rattle.kernel.specs.declared.entry.Entry.{Entry}
use Rattle.proof_log.specs.Entries.{HaveNumbersInRange, entry_text}
use Rattle.verifier.specs.Lines.{Derivation}
use Rattle.verifier.specs.Run.{IsRun, IsStopped}
use Rattle.verifier.specs.declared.answer.LineAnswer.{LineAnswer}

abbrev pub entries_text : List Entry → List ℕ
entries_text entries = flat_map entry_text entries

-- the entries are legal in turn
abbrev pub CanAdmit : Statements → List Entry → Type 0
CanAdmit t entries = (u : Statements) × Admits t entries u

-- legal entries, taken in turn, lead from the first theory to the second
abbrev pub LeadTo : Statements → Statements → Type 0
LeadTo t u = (entries : List Entry) × Admits t entries u

-- a prefix of the lines of entries that are legal in turn after the theory
pub record LogsSome (t : Statements) (old new : Option (List ℕ)) : Type 0 where
  pub entries : List Entry
  pub theory : Statements
  pub legal : Admits t entries theory
  pub taken : TakesPrefix old new (entries_text entries)

-- The lines are run in this order, with these numbers of the accepted ones, and the log has taken the entries of all
-- answers, whose numbers fit their types.
pub record LogsRun (start : Statements) (d : Derivation) (order : List ℕ) (answers : List LineAnswer) (numbers : List (Option ℕ)) (end : Statements) (old new : Option (List ℕ)) : Type 0 where
  pub entries : List Entry
  pub run : IsRun start d order answers entries end
  pub numbered : run.numbers ≡ numbers
  pub taken : Takes old new (entries_text entries)
  pub in_range : HaveNumbersInRange entries

-- The run stops at this place, where there is no room for the line, and the log has taken the entries of the lines
-- before it, whose numbers fit their types.
pub record LogsStopped (start : Statements) (d : Derivation) (order : List ℕ) (place : ℕ) (end : Statements) (old new : Option (List ℕ)) : Type 0 where
  pub entries : List Entry
  pub stopped : IsStopped start d order place entries end
  pub taken : Takes old new (entries_text entries)
  pub in_range : HaveNumbersInRange entries
