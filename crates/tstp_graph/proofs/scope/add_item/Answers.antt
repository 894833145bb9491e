use Rattle.tstp_graph.proofs.Places.{added_none}
use Rattle.tstp_graph.proofs.scope.add_item.Goals as goal

pub returns-in-Some-clause-holds : goal.returns-in-Some-clause-holds
returns-in-Some-clause-holds c = rw (← c.in-Some.ensures) c.add.ensures.holds

pub returns-in-None-clause-holds : goal.returns-in-None-clause-holds
returns-in-None-clause-holds c = rw (← c.in-None.ensures) (added_none c.args.table.now)
