use Rattle.tptp_commands.proofs.Requests.{one_request}
use Rattle.tptp_run.proofs.laws.words_ask_for_one_request.Goals as goal

pub returns : goal.returns
returns c = one_request
