-- What private contracts say, beside the definitions of specs/Answers.
use Rattle.std.specs.Prelude.{ℕ}
use Rattle.proof_log.specs.declared.stop.Stop.{Stop}
use Rattle.proof_log.specs.declared.reader.LogFault.{LogFault}
use Rattle.proof_log.specs.declared.stop.Stop.TheVariants as stop
use Rattle.proof_log.specs.declared.reader.LogFault.TheVariants as fault

abbrev pub fault_of : Stop → ℕ → LogFault
fault_of stop.Memory offset = fault.Memory
fault_of stop.Unexpected offset = fault.Text offset
fault_of stop.TooDeep offset = fault.Deep offset
