-- What status 3 says of a file beside the problem other than that it is missing.
use Rattle.std.specs.Prelude.{◌≡◌, ℕ, List, Ok}
use Rattle.std.specs.declared.option.Option.{Option}
use Rattle.tptp_base.specs.declared.name.Name.{Name}
use Rattle.tptp_base.specs.Store.{HasFile, Files}
use Rattle.fof_terms.specs.Vocabulary.{Vocabulary}
use Rattle.include_resolve.specs.declared.problem.Problem.{Problem}
use Rattle.include_resolve.specs.Resolved.{Resolves}
use Rattle.sort_check.specs.declared.line.Line.{Line}
use Rattle.sort_check.specs.Texts.{denoted}
use Rattle.read_problems.specs.Denoted.{first_vocabulary}
use Rattle.tptp_commands.specs.Derived.{IsDerivationRefusal}
use Rattle.read_problems.specs.Ending.{Ending}
use Rattle.tptp_commands.specs.Modelled.{IsModelRefusal}
use Rattle.read_problems.specs.Sources.{given_names}
use Rattle.read_problems.specs.Spelled.{IsTextRefusal}
use Rattle.sort_check.specs.declared.line.TextKind.TheVariants as kind

-- the first fault of the text of the file is said
abbrev pub SaysFileFault : Option Files → List ℕ → Ending → Type 0
SaysFileFault told file ending =
    (text : List ℕ) × HasFile told file (λ bytes. bytes ≡ text) × IsTextRefusal file text ending

-- the first fault of the derivation in the file is said, from given formulas of these names
abbrev pub SaysLinesFault : Option Files → List ℕ → List Name → Vocabulary → Ending → Type 0
SaysLinesFault told file given v ending =
    (text : List ℕ) × HasFile told file (λ bytes. bytes ≡ text) × IsDerivationRefusal file text given v ending

-- the same, from what the problem gives
abbrev pub SaysDerivedFault : Option Files → Option (List ℕ) → List ℕ → List ℕ → Ending → Type 0
SaysDerivedFault told root problem file ending =
    (whole : Problem) × (lines : List Line) × (v : Vocabulary) × Resolves told root problem (Ok whole)
    × (denoted whole.items first_vocabulary kind.Problem ≡ Ok (lines, v))
    × SaysLinesFault told file (given_names lines) v ending

-- the first fault of the text of the model in the file is said
abbrev pub SaysModelFileFault : Option Files → List ℕ → Ending → Type 0
SaysModelFileFault told file ending =
    (text : List ℕ) × HasFile told file (λ bytes. bytes ≡ text) × IsModelRefusal file text ending

-- the same, where the problem resolves
abbrev pub SaysModelledFault : Option Files → Option (List ℕ) → List ℕ → List ℕ → Ending → Type 0
SaysModelledFault told root problem file ending =
    (whole : Problem) × Resolves told root problem (Ok whole) × SaysModelFileFault told file ending
