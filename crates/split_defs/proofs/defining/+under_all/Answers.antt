use Rattle.split_defs.proofs.UnderAll.{under_more, under_none}
use Rattle.split_defs.proofs.defining.+under_all.Goals as goal

pub returns-in_ok-inner-in-All : goal.returns-in_ok-inner-in-All
returns-in_ok-inner-in-All t c = under_more c.all_i.result c.args.line.now c.get.result.now c.in-All.body c.in-All.sort c.args.part c.in_ok-inner-in-All.inner c.in-All.is c.get.ensures c.in_ok-inner-in-All.ensures c.all_i.ensures

pub returns-in_default : goal.returns-in_default
returns-in_default t c = under_none c.args.line.now c.args.part c.in_default.not-All
