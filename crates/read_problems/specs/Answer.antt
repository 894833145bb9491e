-- An answer of the program as an ending.
use Rattle.read_problems.specs.Ending.{Ending, says}
use Rattle.read_problems.specs.declared.stop.Answer.{Answer}

-- with no log
abbrev pub ending_of : Answer → Ending
ending_of answer = says answer.status answer.text
