use Rattle.std.proofs.Common.{arith, below_more}
use Rattle.rule_steps.proofs.Factoring.{none_found, first_within}
use Rattle.rule_steps.proofs.eqfactor_rule.factor_joint.Goals as goal

pub loop-i-preserved : goal.loop-i-preserved
loop-i-preserved c = below_more _ _ c.loop-i.invariant (none_found c.args.search.now.sig.now c.args.clause.now c.args.search.now.line.now _ c.in_ok-found.found c.in_default.is c.in_ok-found.ensures)

pub returns : goal.returns
returns c = λ i j f g more s h.
    let lt = first_within c.args.search.now.sig.now c.args.clause.now c.args.search.now.line.now c.requires.clause c.requires.line c.args.joint.now c.requires.joint i j f g more s h in
    let end = c.loop-i-test.false in
    let size = c.len-i-end.ensures in
    c.loop-i.invariant i (omega arith) j f g more s h
