-- When a file is over a limit.
use Rattle.std.specs.Prelude.{ℕ, ◌<◌, ◌≤◌}
use Rattle.tptp_base.specs.declared.limit.LimitName.{LimitName}
use Rattle.tptp_base.specs.declared.limit.LimitName.TheVariants.{FileSize, TotalSize}
use Rattle.tptp_base.specs.declared.read.ReadFault.{ReadFault}
use Rattle.tptp_base.specs.declared.read.ReadFault.TheVariants.{Absent as ReadAbsent, Failed as ReadFailed}
use Rattle.tptp_base.specs.declared.read.ReadFault.TheVariants.{Memory as ReadMemory}
use Rattle.tptp_base.specs.declared.store.StoreFault.{StoreFault}
use Rattle.tptp_base.specs.declared.store.StoreFault.TheVariants.{Absent, Failed, Memory}
use Rattle.tptp_base.specs.declared.read.TheConstants.{FILE_SIZE}

-- so many bytes are over this limit, with this many left to read in the run
abbrev pub IsOver : LimitName → ℕ → ℕ → Type 0
IsOver FileSize budget count = FILE_SIZE < count
IsOver TotalSize budget count = (count ≤ FILE_SIZE) × (budget < count)
IsOver other budget count = ⊥

-- a fault of the store as a fault of the read
abbrev pub read_fault : StoreFault → ReadFault
read_fault Absent = ReadAbsent
read_fault Failed = ReadFailed
read_fault Memory = ReadMemory
