use Rattle.tptp_lexer.proofs.Answering.{one, some}
use Rattle.tptp_lexer.proofs.law.one_answer.Goals as goal

pub returns-clause-some : goal.returns-clause-some
returns-clause-some c = λ file text region style within. some file text region style

pub returns-clause-one : goal.returns-clause-one
returns-clause-one c = one
