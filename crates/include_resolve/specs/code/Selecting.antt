-- Selections, as the code answers them.
use Rattle.std.specs.Prelude.{◌≡◌, ◌⊎◌, ℕ, List, Ok, Err}
use Rattle.std.specs.declared.option.Option.{Option}
use Rattle.std.specs.declared.result.Result.{Result}
use Rattle.tptp_base.specs.declared.item.Item.{Item}
use Rattle.tptp_base.specs.declared.name.Name.{Name}
use Rattle.include_resolve.specs.declared.fault.IncludeFault.{IncludeFault}
use Rattle.include_resolve.specs.Names.{Text}
use Rattle.include_resolve.specs.Selection.{selected}
use Rattle.include_resolve.specs.declared.fault.IncludeFault.TheVariants as fault

-- a selection from a part with these items keeps those, or has this fault, or memory is wanting
abbrev pub Selects : Text → Option (List Name) → List Item → Result (List Item) IncludeFault → Type 0
Selects file selection items (Ok kept) = (files : List Text) (read : ℕ) → selected file selection (Ok (record { files = files; items = items; read = read })) ≡ Ok (record { files = files; items = kept; read = read })
Selects file selection items (Err cause) = (cause ≡ fault.Memory) ⊎ ((files : List Text) (read : ℕ) → selected file selection (Ok (record { files = files; items = items; read = read })) ≡ Err cause)

abbrev pub IsUnknown : Text → Name → IncludeFault → Type 0
IsUnknown file name cause = (cause ≡ fault.UnknownSelection file name) ⊎ (cause ≡ fault.Memory)
