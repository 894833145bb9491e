use Rattle.derivation_text.proofs.Counts.{few_items}
use Rattle.derivation_text.proofs.text.items_of.Goals as goal

pub returns-in-Ok-clause-few : goal.returns-in-Ok-clause-few
returns-in-Ok-clause-few c = few_items c.args.text.now c.in_ok-tokens.tokens c.in-Ok.items c.in_ok-tokens.ensures.lexed c.in-Ok.ensures.answers
