use Rattle.include_resolve.proofs.OneAnswer.{one}
use Rattle.include_resolve.proofs.SomeAnswer.{some}
use Rattle.include_resolve.proofs.law.one_answer.Goals as goal

pub returns-clause-some : goal.returns-clause-some
returns-clause-some c = some

pub returns-clause-one : goal.returns-clause-one
returns-clause-one c = one
