-- What a whole run answers and writes: its end, or how far it came where the outside fails or memory is wanting.
use Rattle.std.specs.Prelude.{◌≡◌, ◌⊎◌, ℕ, List, None, Some, Err}
use Rattle.std.specs.declared.option.Option.{Option}
use Rattle.tptp_base.specs.Sink.{Takes, TakesPrefix}
use Rattle.tptp_base.specs.Store.{Files, file_at}
use Rattle.kernel.specs.Statements.{Statements}
use Rattle.kernel.specs.Entries.{Refutes}
use Rattle.kernel.specs.declared.entry.Entry.{Entry}
use Rattle.proof_log.specs.Entries.{AreLogged, log_text}
use Rattle.include_resolve.specs.Resolved.{Resolves}
use Rattle.include_resolve.specs.declared.fault.IncludeFault.TheVariants.{Missing}
use Rattle.derivation_check.specs.Logs.{TakesSomeOfLog}
use Rattle.read_problems.specs.Given.{IsGiven}
use Rattle.tptp_run.specs.Complete.{IsWellSorted}
use Rattle.read_problems.specs.Ending.{Ending, IsAnswer}
use Rattle.tptp_run.specs.Ends.{Ends}
use Rattle.tptp_commands.specs.Made as made
use Rattle.tptp_commands.specs.Words.{Task, Verify, Format, Parse, Check, Make, Prove, Model, Request, IsForm}

-- The sinks took these texts, and they are how a run ends.
pub record Finishes (files : Files) (words : List (List ℕ)) (status : ℕ) (out_old out_new log_old log_new : Option (List ℕ)) : Type 0 where
  pub out : List ℕ
  pub log : List ℕ
  pub out_takes : Takes out_old out_new out
  pub log_takes : Takes log_old log_new log
  pub ends : Ends files words (record { status = status; out = out; log = log })

-- nothing was taken, or a prefix of what a run may write to out
abbrev pub TakesSomeOfOut : Files → List (List ℕ) → Option (List ℕ) → Option (List ℕ) → Type 0
TakesSomeOfOut files words old new = (new ≡ old) ⊎ ((ending : Ending) × Ends files words ending × TakesPrefix old new ending.out)

-- nothing was taken, or so much of a log from what the problem in the file gives
abbrev pub TakesSomeOfProblemLog : Files → Option (List ℕ) → List ℕ → Option (List ℕ) → Option (List ℕ) → Type 0
TakesSomeOfProblemLog files root problem old new = (new ≡ old) ⊎ ((theory : Statements) × (read : ℕ) × IsGiven (Some files) root problem theory read × TakesSomeOfLog theory old new)

-- nothing was taken, or so much of a log from the problem of the task
abbrev pub TakesSomeOfTaskLog : Files → Option (List ℕ) → Task → Option (List ℕ) → Option (List ℕ) → Type 0
TakesSomeOfTaskLog files root (Verify problem derivation log) old new = TakesSomeOfProblemLog files root problem old new
TakesSomeOfTaskLog files root (Format file) old new = new ≡ old
TakesSomeOfTaskLog files root (Parse file) old new = new ≡ old
TakesSomeOfTaskLog files root (Check problem log) old new = new ≡ old
TakesSomeOfTaskLog files root (Make count) old new = TakesSomeOfProblemLog (made.files count) None made.problem_name old new
TakesSomeOfTaskLog files root (Prove problem) old new = new ≡ old
TakesSomeOfTaskLog files root (Model problem model) old new = new ≡ old

-- the file of the problem, or a file that it includes, is not there
abbrev pub LacksProblem : Files → Option (List ℕ) → List ℕ → Type 0
LacksProblem files root problem = (written : List ℕ) × Resolves (Some files) root problem (Err (Missing written))

-- the problem has no fault, and the other file that the task names is not there
abbrev pub LacksOther : Files → Option (List ℕ) → List ℕ → List ℕ → Type 0
LacksOther files root problem other = IsWellSorted files root problem × (file_at files other ≡ None)

-- status 3 says of the task that a file is missing
abbrev pub SaysMissing : Files → Option (List ℕ) → Task → Type 0
SaysMissing files root (Verify problem derivation log) = LacksProblem files root problem ⊎ LacksOther files root problem derivation
SaysMissing files root (Format file) = file_at files file ≡ None
SaysMissing files root (Parse file) = LacksProblem files root file
SaysMissing files root (Check problem log) = LacksProblem files root problem ⊎ LacksOther files root problem log
SaysMissing files root (Make count) = ⊥
SaysMissing files root (Prove problem) = LacksProblem files root problem
SaysMissing files root (Model problem model) = LacksProblem files root problem ⊎ LacksOther files root problem model

-- nothing was taken, or so much of a log from the problem of the task that the words ask for
abbrev pub TakesSomeOfRunLog : Files → List (List ℕ) → Option (List ℕ) → Option (List ℕ) → Type 0
TakesSomeOfRunLog files words old new = (new ≡ old) ⊎ ((request : Request) × IsForm words request × TakesSomeOfTaskLog files request.root request.task old new)

-- What the sinks took, by the status.
pub record IsOutcome (files : Files) (words : List (List ℕ)) (status : ℕ) (out_old out_new log_old log_new : Option (List ℕ)) : Type 0 where
  pub finished : IsAnswer status → Finishes files words status out_old out_new log_old log_new
  pub store_failed : status ≡ 4 → (out_new ≡ out_old) × (log_new ≡ log_old)
  pub cut_short : (status ≡ 5) ⊎ (status ≡ 6) → TakesSomeOfOut files words out_old out_new × TakesSomeOfRunLog files words log_old log_new

-- The headline: the log that was taken is a list of legal entries that leads from what the problem in the file gives,
-- with all that it includes, to falsehood. Each of them stands in logs, so the list is the only one that the log is the
-- text of.
pub record IsRefutation (files : Files) (root : Option (List ℕ)) (problem : List ℕ) (log_old log_new : Option (List ℕ)) : Type 0 where
  pub theory : Statements
  pub read : ℕ
  pub is : IsGiven (Some files) root problem theory read
  pub entries : List Entry
  pub taken : Takes log_old log_new (log_text entries)
  pub refutes : Refutes theory entries
  pub logged : AreLogged entries
