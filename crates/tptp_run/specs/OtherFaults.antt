-- What status 3 says of a run other than that a file is missing.
use Rattle.std.specs.Prelude.{◌⊎◌, ℕ, List}
use Rattle.std.specs.declared.option.Option.{Option}
use Rattle.tptp_base.specs.Sink.{Takes}
use Rattle.tptp_base.specs.Store.{Files}
use Rattle.read_problems.specs.Ending.{Ending}
use Rattle.tptp_commands.specs.Words.{Task, Verify, Format, Parse, Check, Make, Prove, Model, Request, IsForm}
use Rattle.read_problems.specs.OtherFaults.{SaysProblemFault}
use Rattle.tptp_commands.specs.OtherFaults.{SaysFileFault, SaysDerivedFault, SaysModelledFault}

-- a fault of the task other than a missing file is said
abbrev pub SaysTaskFault : Option Files → Option (List ℕ) → Task → Ending → Type 0
SaysTaskFault told root (Verify problem derivation log) ending = SaysProblemFault told root problem ending ⊎ SaysDerivedFault told root problem derivation ending
SaysTaskFault told root (Format file) ending = SaysFileFault told file ending
SaysTaskFault told root (Parse file) ending = SaysProblemFault told root file ending
SaysTaskFault told root (Check problem log) ending = SaysProblemFault told root problem ending
SaysTaskFault told root (Make count) ending = ⊥
SaysTaskFault told root (Prove problem) ending = SaysProblemFault told root problem ending
SaysTaskFault told root (Model problem model) ending = SaysProblemFault told root problem ending ⊎ SaysModelledFault told root problem model ending

-- the same of the task that the words ask for
abbrev pub SaysOtherFault : Option Files → List (List ℕ) → Ending → Type 0
SaysOtherFault told words ending = (request : Request) × IsForm words request × SaysTaskFault told request.root request.task ending

-- out took what is said of a fault other than a missing file
abbrev pub TakesOtherFault : Option Files → List (List ℕ) → Option (List ℕ) → Option (List ℕ) → Type 0
TakesOtherFault told words old new = (ending : Ending) × SaysOtherFault told words ending × Takes old new ending.out
