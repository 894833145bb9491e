use Rattle.rule_steps.proofs.Factoring.{set_as}
use Rattle.std.proofs.Common.{refl}
use Rattle.rule_steps.proofs.eqfactor_rule.with_denied.Goals as goal

pub returns : goal.returns
returns c = set_as c.set.new.self c.set.new.self c.in_ok-made.made c.args.lits.now c.args.i c.in_ok-unequal_lit.field-0 _ refl c.set.ensures c.in_ok-made.ensures c.in_ok-unequal_lit.ensures
