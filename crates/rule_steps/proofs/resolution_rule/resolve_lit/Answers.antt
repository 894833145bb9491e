use Rattle.std.proofs.Common.{arith}
use Rattle.rule_steps.proofs.ResolvedAt.{right_within}
use Rattle.rule_steps.proofs.resolution_rule.resolve_lit.Goals as goal

pub returns : goal.returns
returns c = λ j more s r.
    let lt = right_within c.args.search.now.sig.now c.args.left.now c.args.right.now c.args.search.now.line.now c.args.i j more s r in
    let end = c.loop-j-test.false in
    let size = c.len-j-end.ensures in
    c.loop-j.invariant j (omega arith) more s r
