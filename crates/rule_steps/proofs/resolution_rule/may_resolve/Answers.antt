use Rattle.clause_rules.proofs.Firsts.{there_at}
use Rattle.rule_steps.proofs.ResolvedAt.{never_clashing, never_right}
use Rattle.rule_steps.proofs.resolution_rule.may_resolve.Goals as goal

pub returns-then-not-may_clash : goal.returns-then-not-may_clash
returns-then-not-may_clash c = λ _.
    never_clashing c.args.line.now c.args.left.now c.args.right.now c.args.i c.args.j c.index-left-i.result c.index-right-j.result (there_at c.args.left.now c.args.i c.index-left-i.result c.requires.left_lit c.index-left-i.is) (there_at c.args.right.now c.args.j c.index-right-j.result c.requires.right_lit c.index-right-j.is)
    (c.may_clash.ensures c.if-not-may_clash.true)

pub returns : goal.returns
returns c = λ e. never_right c.args.line.now c.args.left.now c.args.right.now c.args.i c.args.j (c.may_be_pivot.ensures e)
