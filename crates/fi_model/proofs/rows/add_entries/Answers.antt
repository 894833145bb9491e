use Rattle.fi_model.proofs.RowLoops.{entered}
use Rattle.fi_model.proofs.rows.add_entries.Goals as goal

pub loop-entry-preserved : goal.loop-entry-preserved
loop-entry-preserved c =
    entered c.args.signature.now c.args.domains.now c.args.at c.args.entries.now c.loop-entry.entry-index c.args.found.now c.loop-entry.found c.entry-item.result c.loop-entry-test.true c.entry-item.is c.loop-entry.invariant c.add_entry.new.found
    c.in_ok-good.good (cc) c.in_ok-good.ensures
