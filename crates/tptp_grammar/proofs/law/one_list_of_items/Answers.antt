use Rattle.tptp_grammar.proofs.OneList.{one_reading}
use Rattle.tptp_grammar.proofs.Whole.{one_list}
use Rattle.tptp_grammar.proofs.law.one_list_of_items.Goals as goal

pub returns-clause-of_tokens : goal.returns-clause-of_tokens
returns-clause-of_tokens c = one_list

pub returns-clause-of_texts : goal.returns-clause-of_texts
returns-clause-of_texts c = one_reading
