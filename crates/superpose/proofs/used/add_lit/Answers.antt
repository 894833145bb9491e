use Rattle.std.proofs.lemmas.Result.{on_ok_weaker}
use Rattle.superpose.proofs.Resolved.{lent_at}
use Rattle.superpose.proofs.UseFacts.{eligible_no, eligible_yes, lit_unused, lit_used}
use Rattle.superpose.proofs.used.add_lit.Goals as goal

pub returns-then-not-eligible : goal.returns-then-not-eligible
returns-then-not-eligible c =
    lit_unused c.args.clause.now.lits c.args.i c.args.used.now
    (eligible_no c.args.clause.now.lits c.args.i c.in_ok-at.at c.eligible.result c.in_ok-at.ensures c.if-not-eligible.true c.eligible.ensures)

pub returns : goal.returns
returns c =
    on_ok_weaker c.add_spots.result
    (lit_used c.args.clause.now.lits c.args.i c.index-as_slice-i.result
    (lent_at c.as_slice.result.now c.args.clause.now.lits c.args.i c.index-as_slice-i.result c.as_slice.ensures c.requires c.index-as_slice-i.is)
    (eligible_yes c.args.clause.now.lits c.args.i c.in_ok-at.at c.eligible.result c.in_ok-at.ensures c.if-not-eligible.false c.eligible.ensures)
    c.args.used.now c.push.new.self c.add_side.new.sides c.add_side-2.new.sides c.add_spots.new.spots c.in_ok-push.ensures.ok c.in_ok-add_side.ensures c.in_ok-add_side-2.ensures)
    c.add_spots.ensures
