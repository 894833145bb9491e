use Rattle.clause_rules.proofs.Firsts.{ok_map}
use Rattle.rule_steps.proofs.FactorLoops.{in_slot}
use Rattle.rule_steps.proofs.eqfactor_rule.factor_slot.Goals as goal

pub returns-in_ok-joint-in-Some : goal.returns-in_ok-joint-in-Some
returns-in_ok-joint-in-Some c = ok_map c.factor_joint.result (in_slot c.args.search.now.sig.now c.args.search.now.line.now c.in-Some.clause c.args.slot.now c.in-Some.is) c.factor_joint.ensures
