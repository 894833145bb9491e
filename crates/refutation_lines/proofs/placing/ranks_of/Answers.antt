use Rattle.refutation_lines.specs.Places.{ranks_from}
use Rattle.refutation_lines.proofs.PlaceFacts.{ranks_step, ranks_end}
use Rattle.refutation_lines.proofs.placing.ranks_of.Goals as goal

pub loop-is_marked-preserved : goal.loop-is_marked-preserved
loop-is_marked-preserved c =
    ranks_step c.args.marks.now c.loop-is_marked.is_marked-index c.loop-is_marked.next c.in_ok-next.next c.loop-is_marked.ranks c.push.new.self (ranks_from 0 c.args.marks.now) c.loop-is_marked-test.true c.loop-is_marked.invariant c.in_ok-push.ensures.ok c.in_ok-next.ensures

pub returns : goal.returns
returns c =
    ranks_end c.args.marks.now c.loop-is_marked.is_marked-index c.loop-is_marked.next c.loop-is_marked.ranks c.push-2.new.self (ranks_from 0 c.args.marks.now) c.loop-is_marked-test.false c.loop-is_marked.invariant c.in_ok-push-2.ensures.ok
