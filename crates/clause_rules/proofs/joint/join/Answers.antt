use Rattle.std.proofs.Common.{refl, ap, ◌+◌}
use Rattle.clause_rules.proofs.Moving.{joined_is}
use Rattle.clause_rules.proofs.joint.join.Goals as goal

pub returns : goal.returns
returns c =
    joined_is c.args.line.now c.args.left.now c.args.right.now _ c.len-shift.result (c.len-shift.result + c.len.result) c.len-shift.ensures (ap (λ n. c.len-shift.result + n) c.len.ensures) c.in_ok-sorts.ensures refl c.in_ok-left.ensures
    c.in_ok-right.ensures
