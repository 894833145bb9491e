use Rattle.fi_model.proofs.FillFacts.{indexes_more, double_found, double_at_row}
use Rattle.fi_model.proofs.IndexFacts.{of_true}
use Rattle.fi_model.proofs.index.index_rows.Goals as goal

pub loop-row-preserved : goal.loop-row-preserved
loop-row-preserved c =
    indexes_more c.args.rows.now c.loop-row.row-index c.loop-row.index c.row-item.result c.loop-row-test.true c.row-item.is c.loop-row.invariant
    c.in_ok-key.key.items c.in_ok-added.added c.add.new.self c.in_ok-key.ensures c.in_ok-added.ensures.told (cc) (of_true c.in_ok-added.added (cc) c.in_ok-added.ensures.added)

pub returns-then-not-added-clause-fault : goal.returns-then-not-added-clause-fault
returns-then-not-added-clause-fault c =
    double_at_row c.args.rows.now c.args.said.now c.loop-row.row-index c.row-item.result c.index-said-row.result c.second_value.result c.loop-row-test.true c.row-item.is c.requires
    (double_found c.args.rows.now c.loop-row.row-index c.loop-row.index c.row-item.result c.loop-row-test.true c.row-item.is c.loop-row.invariant c.in_ok-key.key.items c.in_ok-added.added c.in_ok-key.ensures c.in_ok-added.ensures.told c.if-not-added.true)
    c.index-said-row.is c.second_value.ensures
