-- The log that the words name.
use Rattle.std.specs.Prelude.{ℕ, List, None}
use Rattle.std.specs.declared.option.Option.{Option}
use Rattle.tptp_commands.specs.Words.{Task, Verify, Format, Parse, Check, Make, Prove, Model}

-- the name of the log that is to be written, if the task names one
abbrev pub log_of : Task → Option (List ℕ)
log_of (Verify problem derivation log) = log
log_of (Format file) = None
log_of (Parse file) = None
log_of (Check problem log) = None
log_of (Make count) = None
log_of (Prove problem) = None
log_of (Model problem model) = None
