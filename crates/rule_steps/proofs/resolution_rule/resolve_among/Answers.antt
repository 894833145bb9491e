use Rattle.std.proofs.Common.{None, Some, below_more}
use Rattle.std.proofs.lemmas.Option.{slice_get-get_or}
use Rattle.rule_steps.proofs.ResolutionLoops.{none_from_slot, found_from_slot, none_among, resolution_answer}
use Rattle.rule_steps.proofs.resolution_rule.resolve_among.Goals as goal

pub loop-a-preserved : goal.loop-a-preserved
loop-a-preserved c =
    below_more _ _ c.loop-a.invariant
    (none_from_slot c.args.search.now.sig.now c.args.search.now.clauses.now c.args.search.now.line.now c.loop-a.a _ (slice_get-get_or c.args.search.now.clauses.now c.loop-a.a c.index-search-a.result c.loop-a-test.true) c.in_ok-found.found c.in_default.is c.in_ok-found.ensures)

pub returns : goal.returns
returns c = λ parents form same is. resolution_answer c.args.search.now.sig.now parents form c.args.search.now.line.now c.args.search.now.clauses.now is same None (none_among c.args.search.now.sig.now c.args.search.now.clauses.now c.args.search.now.line.now c.loop-a.a c.loop-a-test.false c.loop-a.invariant)

pub returns-in-Some : goal.returns-in-Some
returns-in-Some c = λ parents form same is.
    let there = slice_get-get_or c.args.search.now.clauses.now c.loop-a.a c.index-search-a.result c.loop-a-test.true in
    resolution_answer c.args.search.now.sig.now parents form c.args.search.now.line.now c.args.search.now.clauses.now is same (Some c.in-Some.just) (found_from_slot c.args.search.now.sig.now c.args.search.now.clauses.now c.args.search.now.line.now c.loop-a.a _ there c.in_ok-found.found c.in-Some.just c.in-Some.is c.in_ok-found.ensures)
