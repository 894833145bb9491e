-- Why a command ends before its work is done.
use Rattle.tptp_base.specs.declared.sink.SinkFault.{SinkFault}
use Rattle.tptp_base.specs.declared.sink.SinkFault.TheVariants.{Failed, Memory as SinkMemory}
use Rattle.read_problems.specs.declared.stop.Stop.{Stop}
use Rattle.read_problems.specs.declared.stop.Stop.TheVariants.{Sink, Memory, Store}
use Rattle.std.specs.Prelude.{⊤, Ok, Err}
use Rattle.std.specs.declared.result.Result.{Result}
use Rattle.read_problems.specs.declared.stop.Answer.{Answer}
use Rattle.read_problems.specs.declared.stop.Halt.{Halt}
use Rattle.read_problems.specs.declared.stop.Halt.TheVariants.{Refused, Stopped}

-- a fault of a sink
abbrev pub stop_of : SinkFault → Stop
stop_of Failed = Sink
stop_of SinkMemory = Memory

-- a fault of the store has one cause, a fault of a sink the other, and want of memory none
abbrev pub HasCause : Stop → Type 0 → Type 0 → Type 0
HasCause Store store sink = store
HasCause Sink store sink = sink
HasCause Memory store sink = ⊤

-- P holds of the answer, if there is one
abbrev pub IfAnswer : Result Answer Halt → (Answer → Type 0) → Type 0
IfAnswer (Ok answer) P = P answer
IfAnswer (Err (Refused answer)) P = P answer
IfAnswer (Err (Stopped stop)) P = ⊤

-- P holds of the answer of a refusal
abbrev pub IfRefused : {T : Type 0} → Result T Halt → (Answer → Type 0) → Type 0
IfRefused (Ok value) P = ⊤
IfRefused (Err (Refused answer)) P = P answer
IfRefused (Err (Stopped stop)) P = ⊤

-- P holds of the fault, if there is one
abbrev pub IfStopped : {T : Type 0} → Result T Halt → (Stop → Type 0) → Type 0
IfStopped (Ok value) P = ⊤
IfStopped (Err (Refused answer)) P = ⊤
IfStopped (Err (Stopped stop)) P = P stop
