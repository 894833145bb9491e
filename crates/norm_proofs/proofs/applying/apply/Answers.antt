use Rattle.derive_kit.proofs.Built.{ok_map}
use Rattle.norm_proofs.proofs.ApplyingFacts.{by_applied}
use Rattle.norm_proofs.proofs.applying.apply.Goals as goal

pub returns : goal.returns
returns c = ok_map c.applied.result (λ made e t v h a b w z. rw e (by_applied t v h c.args.implication c.args.part a b w z)) c.applied.ensures
