use Rattle.kernel.proofs.Building.{by_subst}
use Rattle.derive_kit.proofs.Built.{ok_map}
use Rattle.derive_kit.proofs.builders.rewrite_in.Goals as goal

pub returns : goal.returns
returns c = ok_map c.subst.result (λ p e t v h l r body w sort z. rw e (by_subst t v h c.args.sort c.args.hole c.args.equation c.args.fact l r body w sort z)) c.subst.ensures
