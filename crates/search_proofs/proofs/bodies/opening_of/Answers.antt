use Rattle.search_proofs.proofs.ClauseBodies.{opened_as}
use Rattle.search_proofs.proofs.bodies.opening_of.Goals as goal

pub returns : goal.returns
returns c = opened_as c.args.clause.now c.in_ok-copy.copy c.has_or-is_or.result c.as_slice.result.now c.in_ok-copy.ensures c.as_slice.ensures c.has_or-is_or.ensures
