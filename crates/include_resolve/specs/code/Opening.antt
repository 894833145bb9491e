-- How a file joins those that were opened, as the code does it.
use Rattle.std.specs.Prelude.{◌≡◌, ◌⊎◌, ◌≤◌, ⊤, ◌+◌, List, [], ◌∷◌, ◌++◌, length, Ok, Err}
use Rattle.std.specs.declared.result.Result.{Result}
use Rattle.tptp_base.specs.declared.item.Item.{Item}
use Rattle.tptp_base.specs.declared.limit.LimitName.{LimitName}
use Rattle.tptp_base.specs.declared.read.TheConstants.{FILE_SIZE}
use Rattle.include_resolve.specs.declared.fault.IncludeFault.{IncludeFault}
use Rattle.include_resolve.specs.declared.opened.Opened.{Opened}
use Rattle.include_resolve.specs.declared.problem.TheConstants.{TOTAL_SIZE}
use Rattle.include_resolve.specs.declared.reading.Read.{Read}
use Rattle.include_resolve.specs.declared.reading.Read.TheVariants.{Whole, Over}
use Rattle.include_resolve.specs.Names.{Text}
use Rattle.include_resolve.specs.code.Spelling.{IsTextFault}
use Rattle.include_resolve.specs.Texts.{IsSpelled}
use Rattle.include_resolve.specs.declared.fault.IncludeFault.TheVariants as fault

-- what was read is within the limits, or was refused
abbrev pub FitsIn : Opened → Read → Type 0
FitsIn opened (Whole text) = (length text ≤ FILE_SIZE) × (opened.read + length text ≤ TOTAL_SIZE)
FitsIn opened (Over limit) = ⊤

abbrev pub IsOverFault : Text → LimitName → IncludeFault → Type 0
IsOverFault name limit cause = (cause ≡ fault.Limit name limit) ⊎ (cause ≡ fault.Memory)

-- A file of this name and text joins those that were opened, and these are its items.
pub record Joins (old new : Opened) (name text : Text) (items : List Item) : Type 0 where
  pub names : new.names ≡ old.names ++ name ∷ []
  pub read : new.read ≡ old.read + length text
  pub spelled : IsSpelled (length old.names) text items

-- what was read of a file of this name is taken
abbrev pub TakesText : Opened → Opened → Text → Read → Result (List Item) IncludeFault → Type 0
TakesText old new name (Whole text) (Ok items) = Joins old new name text items
TakesText old new name (Whole text) (Err cause) = IsTextFault (length old.names) name text cause
TakesText old new name (Over limit) (Ok items) = ⊥
TakesText old new name (Over limit) (Err cause) = IsOverFault name limit cause
