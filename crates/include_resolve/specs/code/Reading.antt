-- What was read of a file, as the code holds it.
use Rattle.std.specs.Prelude.{◌≡◌, ◌≤◌, ⊤, ℕ, length}
use Rattle.std.specs.declared.option.Option.{Option}
use Rattle.tptp_base.specs.declared.read.TheConstants.{FILE_SIZE}
use Rattle.tptp_base.specs.Read.{IsOver}
use Rattle.tptp_base.specs.Store.{Files, HasFile}
use Rattle.include_resolve.specs.declared.fault.IncludeFault.{IncludeFault}
use Rattle.include_resolve.specs.declared.reading.Read.{Read}
use Rattle.include_resolve.specs.declared.reading.Read.TheVariants.{Whole, Over}
use Rattle.include_resolve.specs.Names.{Text}
use Rattle.include_resolve.specs.declared.fault.IncludeFault.TheVariants as fault

-- all bytes of the file, which are within the limits, or the limit that they are over
abbrev pub IsReadOf : Option Files → Text → ℕ → Read → Type 0
IsReadOf told name budget (Whole text) = HasFile told name (λ file. file ≡ text) × (length text ≤ FILE_SIZE) × (length text ≤ budget)
IsReadOf told name budget (Over limit) = HasFile told name (λ file. IsOver limit budget (length file))

-- a fault of the store, with its cause, or want of memory
abbrev pub IsStop : IncludeFault → Type 0 → Type 0
IsStop fault.Store failed = failed
IsStop fault.Memory failed = ⊤
IsStop other failed = ⊥
