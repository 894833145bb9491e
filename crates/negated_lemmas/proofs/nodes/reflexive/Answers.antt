use Rattle.negated_lemmas.proofs.Carried.{refl_carried}
use Rattle.negated_lemmas.proofs.nodes.reflexive.Goals as goal

pub returns : goal.returns
returns c = λ first depth. rw (c.in_ok-new.ensures, c.in_ok-side.ensures) (refl_carried first depth c.args.side.now)
