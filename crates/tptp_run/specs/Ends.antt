-- How a run on some words ends that meets no fault of the outside.
use Rattle.std.specs.Prelude.{◌≡◌, ◌⊎◌, ℕ, List}
use Rattle.std.specs.declared.option.Option.{Option}
use Rattle.tptp_base.specs.Store.{Files}
use Rattle.tptp_commands.specs.CheckedLog.{EndsCheck}
use Rattle.read_problems.specs.Ending.{Ending, says}
use Rattle.tptp_commands.specs.Formatted.{EndsFormat}
use Rattle.tptp_run.specs.Making.{EndsMake}
use Rattle.tptp_commands.specs.Modelled.{EndsModel}
use Rattle.tptp_commands.specs.Parsed.{EndsParse}
use Rattle.tptp_run.specs.Proving.{EndsProve}
use Rattle.tptp_run.specs.Verifying.{EndsVerify}
use Rattle.tptp_commands.specs.Words.{Task, Verify, Format, Parse, Check, Make, Prove, Model, Request, IsForm, HaveNoForm}
use Rattle.tptp_run.specs.declared.run.TheConstants.{USAGE}

-- how each task ends, where included files are looked for in the root too, and a search keeps so many clauses at most
abbrev pub EndsTask : Files → Option (List ℕ) → ℕ → Task → Ending → Type 0
EndsTask files root limit (Verify problem derivation log) ending = EndsVerify files root limit problem derivation ending
EndsTask files root limit (Format file) ending = EndsFormat files file ending
EndsTask files root limit (Parse file) ending = EndsParse files root file ending
EndsTask files root limit (Check problem log) ending = EndsCheck files root problem log ending
EndsTask files root limit (Make count) ending = EndsMake count limit ending
EndsTask files root limit (Prove problem) ending = EndsProve files root limit problem ending
EndsTask files root limit (Model problem model) ending = EndsModel files root problem model ending

-- how a run on these words ends
abbrev pub Ends : Files → List (List ℕ) → Ending → Type 0
Ends files words ending = (HaveNoForm words × (ending ≡ says 2 USAGE.now)) ⊎ ((request : Request) × IsForm words request × EndsTask files request.root request.limit request.task ending)
