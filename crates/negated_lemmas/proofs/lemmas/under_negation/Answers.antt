use Rattle.negated_lemmas.proofs.InTurn.{shows_implied}
use Rattle.negated_lemmas.proofs.lemmas.under_negation.Goals as goal

pub returns : goal.returns
returns c = rw (c.in_ok-new.ensures, c.in_ok-left.ensures) (shows_implied c.args.line.now c.args.first c.args.proof.now _ c.in_ok-part.ensures)
