use Rattle.clause_order.proofs.OrderFacts.{irreflexive, transitive}
use Rattle.clause_order.proofs.laws.order_is_strict.Goals as goal

pub returns-clause-irreflexive : goal.returns-clause-irreflexive
returns-clause-irreflexive c = irreflexive

pub returns-clause-transitive : goal.returns-clause-transitive
returns-clause-transitive c = transitive
