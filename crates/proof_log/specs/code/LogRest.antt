-- What reading to the end of a log answers, where some entries were read before.
use Rattle.std.specs.Prelude.{List, ◌++◌, ℕ, Result, Ok, Err}
use Rattle.kernel.specs.declared.entry.Entry.{Entry}
use Rattle.proof_log.specs.declared.reader.LogFault.{LogFault}
use Rattle.proof_log.specs.Answers.{IsLogOf, Tells}

abbrev pub EndsAs : ℕ → List Entry → List ℕ → Result (Unit {0}) LogFault → Type 0
EndsAs limit entries text (Ok done) = (others : List Entry) × IsLogOf limit text (entries ++ others)
EndsAs limit entries text (Err e) = Tells limit text e
