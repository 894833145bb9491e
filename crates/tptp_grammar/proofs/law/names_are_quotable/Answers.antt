use Rattle.tptp_grammar.proofs.SpelledNames.{spelled_names}
use Rattle.tptp_grammar.proofs.law.names_are_quotable.Goals as goal

pub returns : goal.returns
returns c = spelled_names
