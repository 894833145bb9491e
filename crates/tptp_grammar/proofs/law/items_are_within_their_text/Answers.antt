use Rattle.tptp_grammar.proofs.SpelledSizes.{tokens_within, text_within}
use Rattle.tptp_grammar.proofs.law.items_are_within_their_text.Goals as goal

pub returns-clause-of_tokens : goal.returns-clause-of_tokens
returns-clause-of_tokens c = tokens_within

pub returns-clause-of_texts : goal.returns-clause-of_texts
returns-clause-of_texts c = text_within
