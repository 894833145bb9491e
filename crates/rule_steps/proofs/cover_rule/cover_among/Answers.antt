use Rattle.std.proofs.Common.{below_more, subst, sym}
use Rattle.clause_form.specs.declared.path.Parent.{Parent}
use Rattle.rule_steps.specs.code.CoverFound.{FoundInForm}
use Rattle.rule_steps.proofs.CoverEnds.{none_at, found_at, none_nowhere}
use Rattle.clause_rules.proofs.Firsts.{there_at}
use Rattle.rule_steps.proofs.cover_rule.cover_among.Goals as goal

pub loop-a-preserved : goal.loop-a-preserved
loop-a-preserved c =
    below_more _ _ c.loop-a.invariant
    (none_at c.args.sig.now c.args.parents.now c.args.line.now c.loop-a.a c.index-parents-a.result (there_at c.args.parents.now c.loop-a.a c.index-parents-a.result c.loop-a-test.true c.index-parents-a.is) c.in_ok-found.found c.in_default.is (subst (λ (p : Parent). FoundInForm c.args.sig.now p.form c.args.line.now c.in_ok-found.found) (sym c.index-parents-a.is) c.in_ok-found.ensures))

pub returns : goal.returns
returns c = none_nowhere c.args.sig.now c.args.parents.now c.args.line.now c.loop-a.a c.loop-a-test.false c.loop-a.invariant

pub returns-in-Some : goal.returns-in-Some
returns-in-Some c =
    found_at c.args.sig.now c.args.parents.now c.args.line.now c.loop-a.a c.index-parents-a.result (there_at c.args.parents.now c.loop-a.a c.index-parents-a.result c.loop-a-test.true c.index-parents-a.is) c.in_ok-found.found c.in-Some.covering c.justified.result c.in-Some.is
    (subst (λ (p : Parent). FoundInForm c.args.sig.now p.form c.args.line.now c.in_ok-found.found) (sym c.index-parents-a.is) c.in_ok-found.ensures) c.justified.ensures
