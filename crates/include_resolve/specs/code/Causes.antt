-- What has happened in a store where a fault comes.
use Rattle.std.specs.Prelude.{⊤}
use Rattle.include_resolve.specs.declared.fault.IncludeFault.{IncludeFault}
use Rattle.include_resolve.specs.declared.fault.IncludeFault.TheVariants.{Missing, Store}

-- a missing file has one cause, a fault of the store the other, and other faults none
abbrev pub HasCause : IncludeFault → Type 0 → Type 0 → Type 0
HasCause (Missing name) absent failed = absent
HasCause Store absent failed = failed
HasCause other absent failed = ⊤
