-- What status 3 says of a problem other than that a file is missing.
use Rattle.std.specs.Prelude.{◌≡◌, ◌⊎◌, ℕ, List, Ok, Err}
use Rattle.std.specs.declared.option.Option.{Option}
use Rattle.tptp_base.specs.Store.{Files}
use Rattle.include_resolve.specs.declared.fault.IncludeFault.{IncludeFault}
use Rattle.include_resolve.specs.declared.fault.IncludeFault.TheVariants.{Missing}
use Rattle.include_resolve.specs.declared.problem.Problem.{Problem}
use Rattle.include_resolve.specs.Resolved.{Resolves}
use Rattle.sort_check.specs.declared.fault.SortFault.{SortFault}
use Rattle.sort_check.specs.Texts.{denoted}
use Rattle.read_problems.specs.Denoted.{first_vocabulary, SaysIncludeFault, SaysSortFault}
use Rattle.read_problems.specs.Ending.{Ending}
use Rattle.sort_check.specs.declared.line.TextKind.TheVariants as kind

-- the first fault on the walk through the problem's files is another than a missing file, and it is said
abbrev pub SaysWalkFault : Option Files → Option (List ℕ) → List ℕ → Ending → Type 0
SaysWalkFault told root file ending = (fault : IncludeFault) × Resolves told root file (Err fault) × ((written : List ℕ) → fault ≡ Missing written → ⊥) × SaysIncludeFault fault ending

-- that fault is said, or the problem's first fault against the rules of sorts
abbrev pub SaysProblemFault : Option Files → Option (List ℕ) → List ℕ → Ending → Type 0
SaysProblemFault told root file ending = SaysWalkFault told root file ending
    ⊎ ((problem : Problem) × Resolves told root file (Ok problem) × ((fault : SortFault) × (denoted problem.items first_vocabulary kind.Problem ≡ Err fault) × SaysSortFault problem.files fault ending))
