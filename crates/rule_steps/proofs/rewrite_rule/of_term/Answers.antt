use Rattle.std.proofs.Common.{Some}
use Rattle.rule_steps.proofs.ParamodulationCode.{equation_as}
use Rattle.rule_steps.proofs.RewriteCode.{no_rewrite_heads}
use Rattle.rule_steps.proofs.rewrite_rule.of_term.Goals as goal

pub returns-then-not-may_meet : goal.returns-then-not-may_meet
returns-then-not-may_meet c =
    no_rewrite_heads c.args.search.now.sig.now c.args.into.now c.args.by.now c.args.search.now.line.now c.args.target.now c.args.flipped c.in-Some.sides.left.now c.in-Some.sides.right.now
    (equation_as c.args.by.now.lits c.as_slice.result.now 0 c.args.flipped (Some c.in-Some.sides) c.as_slice.ensures c.in-Some.ensures) (c.may_meet.ensures c.if-not-may_meet.true)

pub returns-then-not-is_open : goal.returns-then-not-is_open
returns-then-not-is_open c = c.in_ok-is_open-in-Some.ensures c.if-not-is_open.true c.args.search.now.sig.now c.requires.into c.args.by.now c.args.flipped
