-- How many lines a report is on, and how many of them are accepted by norm and by resolution.
use Rattle.std.specs.Prelude.{◌≡◌, Bool, true, false, List, length, count_by}
use Rattle.elaborate.specs.declared.answer.Rule.TheVariants.{Norm, Resolution}
use Rattle.verifier.specs.declared.answer.LineAnswer.{LineAnswer}
use Rattle.verifier.specs.declared.answer.LineAnswer.TheVariants.{Accepted}
use Rattle.derivation_check.specs.declared.checking.Report.{Report}

abbrev pub is_norm : LineAnswer → Bool
is_norm (Accepted Norm cites) = true
is_norm _ = false

abbrev pub is_resolution : LineAnswer → Bool
is_resolution (Accepted Resolution cites) = true
is_resolution _ = false

-- The report counts these answers.
pub record Counts (report : Report) (answers : List LineAnswer) : Type 0 where
  pub lines : report.lines ≡ length answers
  pub norms : report.norms ≡ count_by is_norm answers
  pub resolutions : report.resolutions ≡ count_by is_resolution answers
