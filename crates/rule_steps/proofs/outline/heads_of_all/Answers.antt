use Rattle.std.proofs.Common.{sym, ◌∙◌}
use Rattle.clause_form.proofs.Views.{more_there, not_all_there}
use Rattle.rule_steps.specs.code.Outline.{sketch}
use Rattle.rule_steps.proofs.outline.heads_of_all.Goals as goal

pub returns-in-None : goal.returns-in-None
returns-in-None c =
    sym (not_all_there (λ a. (sketch a).head) c.args.members.now c.loop-member.member-index c.member-item.result c.loop-member-test.true c.member-item.is (sym c.head_of.ensures ∙ c.in-None.is))

pub loop-member-preserved : goal.loop-member-preserved
loop-member-preserved c =
    rw c.in_ok-push-in-Some.ensures.ok
    (more_there (λ a. (sketch a).head) c.args.members.now c.loop-member.member-index c.member-item.result c.in-Some.head c.loop-member.heads c.loop-member-test.true c.member-item.is (sym c.head_of.ensures ∙ c.in-Some.is) c.loop-member.invariant)
