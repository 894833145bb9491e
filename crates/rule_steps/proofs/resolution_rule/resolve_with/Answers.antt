use Rattle.std.proofs.Common.{arith, below_more}
use Rattle.rule_steps.proofs.ResolutionLoops.{found_pivot, none_at_all, none_pivot}
use Rattle.rule_steps.proofs.resolution_rule.resolve_with.Goals as goal

pub loop-i-preserved : goal.loop-i-preserved
loop-i-preserved c = below_more _ _ c.loop-i.invariant (none_pivot c.args.search.now.sig.now c.args.search.now.clauses.now c.args.search.now.line.now c.args.left.now c.args.a c.loop-i.i c.in_ok-found.found c.in_default.is c.in_ok-found.ensures)

pub returns-in-Some : goal.returns-in-Some
returns-in-Some c = found_pivot c.args.search.now.sig.now c.args.search.now.clauses.now c.args.search.now.line.now c.args.left.now c.args.a c.loop-i.i c.in_ok-found.found c.in-Some.just c.in-Some.is c.in_ok-found.ensures

pub returns : goal.returns
returns c =
    let end = c.loop-i-test.false in
    let size = c.len-i-end.ensures in
    none_at_all c.args.search.now.sig.now c.args.search.now.clauses.now c.args.search.now.line.now c.args.left.now c.loop-i.i (omega arith) c.loop-i.invariant
