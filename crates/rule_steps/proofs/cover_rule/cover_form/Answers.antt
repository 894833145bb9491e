use Rattle.clause_form.specs.Norm.{HasNorm}
use Rattle.rule_steps.proofs.CoverEnds.{norm_is_small, norm_is_sorted, found_in_form}
use Rattle.clause_rules.proofs.Firsts.{ok_map}
use Rattle.rule_steps.proofs.cover_rule.cover_form.Goals as goal

pub cover_open-requires-clause-small : goal.cover_open-requires-clause-small
cover_open-requires-clause-small c = let has : HasNorm c.args.form.now c.in-Some.norm = rw c.in-Some.is at c.in_ok-norm.ensures in norm_is_small c.args.sig.now c.args.form.now c.in-Some.norm c.get.result.now has c.get.ensures

pub cover_open-requires-clause-norm : goal.cover_open-requires-clause-norm
cover_open-requires-clause-norm c = let has : HasNorm c.args.form.now c.in-Some.norm = rw c.in-Some.is at c.in_ok-norm.ensures in norm_is_sorted c.args.sig.now c.args.form.now c.in-Some.norm c.get.result.now has c.get.ensures c.requires.form.fits

pub returns-in-Some : goal.returns-in-Some
returns-in-Some c =
    let has : HasNorm c.args.form.now c.in-Some.norm = rw c.in-Some.is at c.in_ok-norm.ensures in
    ok_map c.cover_open.result (found_in_form c.args.sig.now c.args.form.now c.in-Some.norm c.get.result.now has c.get.ensures c.args.line.now) c.cover_open.ensures
