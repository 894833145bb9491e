use Rattle.std.proofs.Common.{◌∙◌}
use Rattle.clause_rules.specs.Places.{lit_put_at}
use Rattle.rule_steps.proofs.ParamodulationCode.{paramodulated_is}
use Rattle.rule_steps.proofs.paramodulating.paramodulated.Goals as goal

pub returns : goal.returns
returns c =
    paramodulated_is c.args.joint.now.left c.args.joint.now.right c.in_ok-lits.lits c.set.new.self c.in_ok-others.others c.remove.new.self c.append.new.self c.args.site.now.lit c.args.reading.now.lit (lit_put_at c.args.site.now.at c.args.sides.now.right.now c.args.spot.now.lit.now) c.in_ok-changed.changed
    (c.in_ok-lits.ensures ∙ c.as_slice.ensures) (rw c.as_slice-2.ensures at c.in_ok-changed.ensures) c.set.ensures (c.in_ok-others.ensures ∙ c.as_slice-3.ensures) c.remove.ensures.rest c.in_ok-append.ensures
