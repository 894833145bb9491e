-- What one step of the walk does. It is no part of the definition: only the contracts of private functions cite it.
use Rattle.std.specs.Prelude.{◌≡◌, ◌⊎◌, ◌<◌, ⊤, ◌+◌, List, ◌∷◌, ◌++◌, length, map, true, false, Ok, Err, string_bytes}
use Rattle.std.specs.Prelude.{option_to_list}
use Rattle.std.specs.declared.result.Result.{Result}
use Rattle.tptp_base.specs.declared.item.Item.{Item}
use Rattle.tptp_base.specs.declared.item.Item.TheVariants.{Comment, Formula, Include}
use Rattle.tptp_base.specs.Quotable.{IsQuotable}
use Rattle.include_resolve.specs.declared.fault.IncludeFault.{IncludeFault}
use Rattle.include_resolve.specs.declared.names.Names.{Names}
use Rattle.include_resolve.specs.declared.opened.Opened.{Opened}
use Rattle.include_resolve.specs.declared.problem.Problem.{Problem}
use Rattle.include_resolve.specs.declared.problem.TheConstants.{MAX_DEPTH}
use Rattle.include_resolve.specs.Names.{Text, is_on}
use Rattle.include_resolve.specs.Parts.{Answer}
use Rattle.include_resolve.specs.Resolved.{Walk}
use Rattle.include_resolve.specs.declared.fault.IncludeFault.TheVariants as fault

-- the names that are tried in turn
abbrev pub list_of : Names → List Text
list_of names = string_bytes names.first ∷ map string_bytes (option_to_list names.other)

-- where the walk stands with these open files
abbrev pub walk_of : List Text → Opened → Walk
walk_of path opened = record { path = path; opened = length opened.names; read = opened.read }

-- a file that the item includes has a name that a text can spell
abbrev pub HasQuotableFile : Item → Type 0
HasQuotableFile (Include inclusion) = IsQuotable inclusion.file
HasQuotableFile (Formula annotated) = ⊤
HasQuotableFile (Comment text) = ⊤

-- a file of this name can't be opened inside these, or memory is wanting
abbrev pub IsRefusal : List Text → Text → IncludeFault → Type 0
IsRefusal path name cause = ((cause ≡ fault.Cycle name) × (is_on path name ≡ true))
    ⊎ (((cause ≡ fault.DeepInclude name) × (is_on path name ≡ false) × (MAX_DEPTH < length path)) ⊎ (cause ≡ fault.Memory))

-- The files of the part were opened.
pub record Opening (old new : Opened) (part : Problem) : Type 0 where
  pub names : new.names ≡ old.names ++ part.files
  pub read : new.read ≡ old.read + part.read

-- a fault of the store, and want of memory, may stand for any answer
abbrev pub Fails : (Answer → Type 0) → IncludeFault → Type 0
Fails P fault.Store = ⊤
Fails P fault.Memory = ⊤
Fails P cause = P (Err cause)

-- these items are those of a part that P is said of
abbrev pub Gives : (Answer → Type 0) → Opened → Opened → Result (List Item) IncludeFault → Type 0
Gives P old new (Ok items) = (part : Problem) × (part.items ≡ items) × Opening old new part × P (Ok part)
Gives P old new (Err cause) = Fails P cause

-- the items of a part that P is said of join the others
abbrev pub Adds : {T : Type 0} → (Answer → Type 0) → Opened → Opened → List Item → List Item → Result T IncludeFault → Type 0
Adds P old new before after (Ok value) = (part : Problem) × (after ≡ before ++ part.items) × Opening old new part × P (Ok part)
Adds P old new before after (Err cause) = Fails P cause
