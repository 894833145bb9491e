use Rattle.sat_entries.proofs.NamingFacts.{one_named}
use Rattle.sat_entries.proofs.naming.named_inputs.Goals as goal

pub loop-learned-preserved : goal.loop-learned-preserved
loop-learned-preserved c =
    one_named c.args.count c.args.log.now c.loop-learned.learned-index c.learned-item.result c.as_slice.result.now c.loop-learned.marks c.mark.new.marks c.loop-learned-test.true c.learned-item.is c.as_slice.ensures c.loop-learned.invariant c.mark.ensures
