use Rattle.tptp_lexer.proofs.Answering.{one_list}
use Rattle.tptp_lexer.proofs.law.one_token_list.Goals as goal

pub returns : goal.returns
returns c = one_list
