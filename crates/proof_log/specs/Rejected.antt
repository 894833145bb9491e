-- A fault of the text of a log, as its check tells it (`LogCheckFault`).
use Rattle.proof_log.specs.declared.reader.LogFault.{LogFault}
use Rattle.proof_log.specs.declared.reader.LogFault.TheVariants as fault
use Rattle.proof_log.specs.declared.log_check.LogCheckFault.{LogCheckFault}
use Rattle.proof_log.specs.declared.log_check.LogCheckFault.TheVariants as check

abbrev pub rejected : LogFault → LogCheckFault
rejected (fault.Text offset) = check.Text offset
rejected (fault.Deep offset) = check.Deep offset
rejected fault.Limit = check.Limit
rejected fault.Memory = check.Memory
