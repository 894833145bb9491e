use Rattle.clause_rules.proofs.Moving.{reaches_fit}
use Rattle.clause_rules.proofs.joint.kept_apart.Goals as goal

pub apart-requires : goal.apart-requires
apart-requires c = rw c.as_slice.ensures (reaches_fit c.args.sig.now c.args.clause.now c.args.by c.requires.fit c.requires.few)
