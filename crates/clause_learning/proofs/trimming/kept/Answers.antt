use Rattle.clause_learning.proofs.Keeping.{trimmed_none, trimmed_next}
use Rattle.clause_learning.proofs.trimming.kept.Goals as goal

pub loop-place-init : goal.loop-place-init
loop-place-init c = trimmed_none c.args.inputs.now (record { log = c.new.result; numbers = c.new-2.result }) c.new.ensures c.new-2.ensures

pub loop-place-preserved : goal.loop-place-preserved
loop-place-preserved c =
    trimmed_next c.args.inputs.now c.args.log.now c.loop-place.place c.index-log-place.result c.loop-place-test.true c.index-log-place.is c.loop-place.trimmed c.next.new.self c.loop-place.invariant c.requires
    (c.in_ok-next.ensures c.if-not-branch.false)

pub ended-requires : goal.ended-requires
ended-requires c = c.loop-place.invariant.steps
