use Rattle.std.proofs.Common.{◌∙◌}
use Rattle.rule_steps.proofs.ResolutionGoals.{goal_is}
use Rattle.rule_steps.proofs.resolution_rule.resolution_goal.Goals as goal

pub returns : goal.returns
returns c =
    goal_is c.args.line.now c.args.left.now c.args.right.now c.args.pivot.now c.args.opposite.now c.in_ok-ways_to.field-0 c.as_slice.result.now c.as_slice-2.result.now c.in_ok-all_covered.field-0 c.in_ok-all_covered-2.field-0 c.in_ok-goals.goals c.append.new.self c.append-2.new.self
    c.in_ok-ways_to.ensures c.in_ok-goals.ensures (c.as_slice.ensures ∙ c.in_ok-targets.ensures) c.in_ok-all_covered.ensures c.in_ok-append.ensures (c.as_slice-2.ensures ∙ c.in_ok-targets-2.ensures) c.in_ok-all_covered-2.ensures c.in_ok-append-2.ensures
