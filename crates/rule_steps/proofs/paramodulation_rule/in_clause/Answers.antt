use Rattle.std.proofs.Common.{None, arith, below_more, subst}
use Rattle.rule_steps.specs.code.ParamodulationSearch.{FoundAtLit}
use Rattle.rule_steps.proofs.ParamodulationPlaces.{no_lit_past}
use Rattle.rule_steps.proofs.paramodulation_rule.in_clause.Goals as goal

pub loop-i-preserved : goal.loop-i-preserved
loop-i-preserved c =
    below_more (λ i. FoundAtLit c.args.search.now.sig.now c.args.search.now.clauses.now c.args.readings.now c.args.search.now.line.now c.args.a i None) _ c.loop-i.invariant
    (subst (FoundAtLit c.args.search.now.sig.now c.args.search.now.clauses.now c.args.readings.now c.args.search.now.line.now c.args.a c.loop-i.i) c.in_default.is c.in_ok-found.ensures)

pub returns : goal.returns
returns c =
    let end = c.loop-i-test.false in
    let size = c.len-i-end.ensures in
    no_lit_past c.args.search.now.sig.now c.args.search.now.clauses.now c.args.readings.now c.args.search.now.line.now c.args.a c.args.into.now c.requires.there c.loop-i.i (omega arith) c.loop-i.invariant
