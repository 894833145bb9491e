use Rattle.std.proofs.Common.{arith}
use Rattle.superpose.proofs.UseFacts.{uses_next, uses_all}
use Rattle.superpose.proofs.used.used_of.Goals as goal

pub loop-i-preserved : goal.loop-i-preserved
loop-i-preserved c = uses_next c.args.clause.now.lits c.loop-i.i c.loop-i.used c.add_lit.new.used c.loop-i.invariant c.in_ok-add_lit.ensures

pub returns : goal.returns
returns c =
    let end = c.loop-i-test.false in
    let size = c.len-i-end.ensures in
    uses_all c.args.clause.now.lits c.loop-i.i c.loop-i.used (omega arith) c.loop-i.invariant
