use Rattle.derive_kit.proofs.Built.{ok_map}
use Rattle.negated_lemmas.proofs.Carried.{hyp_carried}
use Rattle.negated_lemmas.proofs.nodes.hypothesis.Goals as goal

pub returns : goal.returns
returns c = ok_map c.hyp.result (λ made e first depth. rw e (hyp_carried first depth c.args.number)) c.hyp.ensures
