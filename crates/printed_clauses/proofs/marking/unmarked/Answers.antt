use Rattle.printed_clauses.proofs.MarkingFacts.{unmarked_none, unmarked_more}
use Rattle.printed_clauses.proofs.marking.unmarked.Goals as goal

pub loop-init : goal.loop-init
loop-init c = unmarked_none c.new-marks.result c.new-marks.ensures

pub loop-preserved : goal.loop-preserved
loop-preserved c = unmarked_more c.loop.counter c.loop.marks c.push.new.self c.loop.invariant c.in_ok-push.ensures.ok
