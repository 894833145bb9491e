use Rattle.derive_kit.proofs.Built.{ok_map}
use Rattle.negated_lemmas.proofs.InTurn.{falsehood_shows}
use Rattle.negated_lemmas.proofs.lemmas.by_falsehood.Goals as goal

pub returns : goal.returns
returns c = ok_map c.raa.result (λ made e. rw e (rw (c.in_ok-falsehood.ensures, c.in_ok-copy.ensures) (falsehood_shows c.args.line.now c.args.number))) c.raa.ensures
