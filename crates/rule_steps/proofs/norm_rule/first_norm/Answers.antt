use Rattle.std.proofs.Common.{subst, sym}
use Rattle.rule_steps.proofs.NormSteps.{first_norm_of}
use Rattle.clause_rules.proofs.Firsts.{ok_map}
use Rattle.flat_form.specs.Flat.{HasFlat}
use Rattle.rule_steps.proofs.norm_rule.first_norm.Goals as goal

pub returns-in-Some : goal.returns-in-Some
returns-in-Some c =
    let has : HasFlat c.args.line.now c.in-Some.made = rw c.in-Some.is at c.in_ok-made.ensures in
    ok_map c.first_alike.result (first_norm_of c.args.parents.now c.args.line.now c.get.result.now (subst (HasFlat c.args.line.now) (sym c.get.ensures) has)) c.first_alike.ensures
