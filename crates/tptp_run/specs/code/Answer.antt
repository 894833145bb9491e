-- An answer of the program, with what the log took, as an ending.
use Rattle.std.specs.Prelude.{ℕ, List}
use Rattle.std.specs.declared.option.Option.{Option}
use Rattle.tptp_base.specs.Sink.{Takes}
use Rattle.read_problems.specs.Ending.{Ending}
use Rattle.read_problems.specs.declared.stop.Answer.{Answer}

abbrev pub with_log : Answer → List ℕ → Ending
with_log answer log = record { status = answer.status; out = answer.text; log = log }

-- the answer, with what the log took, has the property
abbrev pub IsAnswerWithLog : (Ending → Type 0) → Answer → Option (List ℕ) → Option (List ℕ) → Type 0
IsAnswerWithLog P answer log_old log_new = (log : List ℕ) × Takes log_old log_new log × P (with_log answer log)
