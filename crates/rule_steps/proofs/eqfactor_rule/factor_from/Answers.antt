use Rattle.std.proofs.Common.{arith, below_more, subst}
use Rattle.substitution_search.specs.Screens.{NeverOthers}
use Rattle.rule_steps.proofs.Changing.{never_factored}
use Rattle.rule_steps.proofs.Factoring.{none_found, second_within}
use Rattle.rule_steps.proofs.eqfactor_rule.factor_from.Goals as goal

pub returns-then-not-may_others_be_covered : goal.returns-then-not-may_others_be_covered
returns-then-not-may_others_be_covered c =
    never_factored c.args.search.now.sig.now c.args.clause.now c.args.search.now.line.now c.args.i
    (subst (λ ls. NeverOthers ls c.args.clause.now.lits c.args.i) c.as_slice.ensures (subst (λ ls. NeverOthers c.as_slice.result.now ls c.args.i) c.as_slice-2.ensures (c.may_others_be_covered.ensures c.if-not-may_others_be_covered.true)))

pub loop-j-preserved : goal.loop-j-preserved
loop-j-preserved c = below_more _ _ c.loop-j.invariant (none_found c.args.search.now.sig.now c.args.clause.now c.args.search.now.line.now _ c.in_ok-found.found c.in_default.is c.in_ok-found.ensures)

pub returns : goal.returns
returns c = λ j f g more s h.
    let lt = second_within c.args.search.now.sig.now c.args.clause.now c.args.search.now.line.now c.requires.clause c.requires.line c.args.joint.now c.requires.joint c.args.i j f g more s h in
    let end = c.loop-j-test.false in
    let size = c.len-j-end.ensures in
    c.loop-j.invariant j (omega arith) f g more s h
