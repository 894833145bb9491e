use Rattle.std.proofs.Common.{subst}
use Rattle.search_proofs.specs.code.Variables.{AreVariables}
use Rattle.search_proofs.proofs.ClauseBodies.{body_shown}
use Rattle.search_proofs.proofs.bodies.body_by.Goals as goal

pub returns : goal.returns
returns c =
    body_shown c.args.number c.args.clause.now c.in_ok-opened.opened c.in_ok-images.images c.in_ok-premise.premise c.in_ok-opened.ensures (subst (λ n. AreVariables n c.in_ok-images.images) c.len.ensures c.in_ok-images.ensures) c.in_ok-premise.ensures
