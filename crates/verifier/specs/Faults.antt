-- Why a run did not come to its end, by what a sink answers, or because there is no room for a line.
use Rattle.std.specs.Prelude.{⊤, ℕ}
use Rattle.tptp_base.specs.declared.sink.SinkFault.{SinkFault}
use Rattle.tptp_base.specs.declared.sink.SinkFault.TheVariants.{Failed, Memory as wanting}
use Rattle.verifier.specs.declared.fault.RunFault.{RunFault}
use Rattle.verifier.specs.declared.fault.RunFault.TheVariants.{Sink, Memory, Room}

abbrev pub fault_of : SinkFault → RunFault
fault_of Failed = Sink
fault_of wanting = Memory

-- a fault of the log has this cause; want of memory needs none, and no line lacks room
abbrev pub HasCause : RunFault → Type 0 → Type 0
HasCause Sink cause = cause
HasCause Memory cause = ⊤
HasCause (Room place) cause = ⊥

-- a fault of the log has this cause, and a line lacks room at such a place
abbrev pub HasRunCause : RunFault → Type 0 → (ℕ → Type 0) → Type 0
HasRunCause Sink cause AtPlace = cause
HasRunCause Memory cause AtPlace = ⊤
HasRunCause (Room place) cause AtPlace = AtPlace place
