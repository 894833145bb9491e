use Rattle.std.proofs.Common.{sym}
use Rattle.clause_form.proofs.RoomFacts.{sorts_more}
use Rattle.clause_form.proofs.beside.all_sorts.Goals as goal

pub loop-clause-preserved : goal.loop-clause-preserved
loop-clause-preserved c =
    rw (c.in_ok-append.ensures, c.loop-clause.invariant, c.in_ok-from_slice.ensures, c.as_slice.ensures)
    (sym (sorts_more c.args.clauses.now c.loop-clause.clause-index c.clause-item.result c.loop-clause-test.true c.clause-item.is))
