use Rattle.negated_lemmas.proofs.InTurn.{speak_alike}
use Rattle.negated_lemmas.proofs.laws.implied_facts_speak_alike.Goals as goal

pub returns : goal.returns
returns c = speak_alike
