use Rattle.clause_rules.specs.Answers.{norm}
use Rattle.rule_steps.proofs.FirstRule.{extend, first, nothing_before}
use Rattle.clause_rules.proofs.Firsts.{ok_map}
use Rattle.rule_steps.proofs.recognising.recognise.Goals as goal

pub returns-in-Some : goal.returns-in-Some
returns-in-Some c = first c.args.sig.now c.args.parents.now c.args.line.now norm c.in_ok-just.field-0 c.in-Some.just c.in-Some.is c.in_ok-just.ensures (nothing_before c.args.sig.now c.args.parents.now c.args.line.now)

pub returns-in-None : goal.returns-in-None
returns-in-None c =
    ok_map c.by_form.result
    (λ answer told. told (extend c.args.sig.now c.args.parents.now c.args.line.now norm c.in_ok-just.field-0 c.in-None.is c.in_ok-just.ensures (nothing_before c.args.sig.now c.args.parents.now c.args.line.now)))
    c.by_form.ensures
