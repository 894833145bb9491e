use Rattle.std.proofs.Common.{ap, sym, slice_get, arith, ◌∙◌}
use Rattle.rule_steps.proofs.Changing.{never_open}
use Rattle.clause_rules.proofs.Firsts.{there_at}
use Rattle.rule_steps.proofs.paramodulation_rule.may_change.Goals as goal

pub returns : goal.returns
returns c = λ e.
    never_open c.args.line.now c.args.into.now c.args.site.now c.index-lits-at.result c.in_ok-open.open c.len.result c.as_slice.result.now c.as_slice-2.result.now
    (ap (λ ls. slice_get ls c.args.site.now.lit) (sym c.as_slice-lits.ensures) ∙ there_at c.as_slice-lits.result.now c.args.site.now.lit c.index-lits-at.result (omega arith) c.index-lits-at.is)
    c.in_ok-open.ensures c.as_slice.ensures c.len.ensures c.as_slice-2.ensures (c.may_be_covered.ensures e)
