use Rattle.std.proofs.Common.{sym, ◌∙◌, ap, Some}
use Rattle.clause_rules.proofs.Firsts.{ok_map}
use Rattle.rule_steps.proofs.Outlines.{never_alike}
use Rattle.rule_steps.proofs.outline.may_be_alike.Goals as goal

pub returns-in-Some : goal.returns-in-Some
returns-in-Some c =
    ok_map c.any_may_have.result (λ r others e. never_alike c.args.parents.now c.args.line.now c.as_slice.result.now (sym c.in_ok-heads.ensures ∙ (c.in-Some.is ∙ ap Some (sym c.as_slice.ensures))) (others e)) c.any_may_have.ensures
