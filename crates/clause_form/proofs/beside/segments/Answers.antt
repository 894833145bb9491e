use Rattle.clause_form.proofs.RoomFacts.{member_moves, from_here, room_for, segment_here}
use Rattle.clause_form.proofs.beside.segments.Goals as goal

pub push_moved-requires : goal.push_moved-requires
push_moved-requires c =
    let here = from_here c.args.clauses.now c.loop-number.number c.index-clauses-number.result c.loop-number-test.true c.index-clauses-number.is in
    rw (c.as_slice.ensures, c.len-count.ensures)
    (member_moves c.args.clauses.now c.loop-number.number c.index-clauses-number.result _ c.loop-number.before c.args.total c.loop-number-test.true c.index-clauses-number.is
    (room_for c.args.clauses.now c.loop-number.number c.index-clauses-number.result c.args.total c.loop-number.before c.loop-number.lits here c.loop-number.invariant) c.requires.total c.requires.over)

pub loop-number-preserved : goal.loop-number-preserved
loop-number-preserved c =
    let here = from_here c.args.clauses.now c.loop-number.number c.index-clauses-number.result c.loop-number-test.true c.index-clauses-number.is in
    segment_here c.args.clauses.now c.loop-number.number c.index-clauses-number.result c.args.total c.loop-number.before c.loop-number.lits c.push_moved.new.lits c.as_slice.result.now c.len-count.result here
    c.len-count.ensures c.as_slice.ensures c.in_ok-push_moved.ensures c.loop-number.invariant
