use Rattle.std.proofs.Common.{sym}
use Rattle.clause_order.proofs.OrderFacts.{not_less, same_not_less}
use Rattle.clause_order.proofs.comparison.sides_not_less.Goals as goal

pub returns-in-Less-clause-right : goal.returns-in-Less-clause-right
returns-in-Less-clause-right c = not_less c.args.right.now c.args.left.now c.in-Less.ensures

pub returns-in-Greater-clause-left : goal.returns-in-Greater-clause-left
returns-in-Greater-clause-left c = not_less c.args.left.now c.args.right.now c.in-Greater.ensures

pub returns-in-Equal-clause-left : goal.returns-in-Equal-clause-left
returns-in-Equal-clause-left c = same_not_less c.args.left.now c.args.right.now c.in-Equal.ensures

pub returns-in-Equal-clause-right : goal.returns-in-Equal-clause-right
returns-in-Equal-clause-right c = same_not_less c.args.right.now c.args.left.now (sym c.in-Equal.ensures)
