use Rattle.std.proofs.Common.{below_more, subst}
use Rattle.substitution_search.specs.Screens.{NeverPivot}
use Rattle.std.proofs.lemmas.Option.{slice_get-get_or}
use Rattle.rule_steps.proofs.ResolutionLoops.{no_pivot, none_in_slot, found_in_slot, none_with}
use Rattle.rule_steps.proofs.resolution_rule.resolve_pivot.Goals as goal

pub returns-then-not-may_be_pivot : goal.returns-then-not-may_be_pivot
returns-then-not-may_be_pivot c =
    no_pivot c.args.search.now.sig.now c.args.search.now.clauses.now c.args.search.now.line.now c.args.left.now c.args.i
    (subst (λ ls. NeverPivot ls c.args.left.now.lits c.args.i) c.as_slice.ensures (subst (λ ls. NeverPivot c.as_slice.result.now ls c.args.i) c.as_slice-2.ensures (c.may_be_pivot.ensures c.if-not-may_be_pivot.true)))

pub loop-b-preserved : goal.loop-b-preserved
loop-b-preserved c =
    below_more _ _ c.loop-b.invariant
    (none_in_slot c.args.search.now.sig.now c.args.search.now.clauses.now c.args.search.now.line.now c.args.left.now c.loop-b.b _ (slice_get-get_or c.args.search.now.clauses.now c.loop-b.b c.index-search-b.result c.loop-b-test.true) c.args.i c.in_ok-found.found c.in_default.is c.in_ok-found.ensures)

pub returns : goal.returns
returns c = none_with c.args.search.now.sig.now c.args.search.now.clauses.now c.args.search.now.line.now c.args.left.now c.args.i c.loop-b.b c.loop-b-test.false c.loop-b.invariant

pub returns-in-Some : goal.returns-in-Some
returns-in-Some c =
    let there = slice_get-get_or c.args.search.now.clauses.now c.loop-b.b c.index-search-b.result c.loop-b-test.true in
    found_in_slot c.args.search.now.sig.now c.args.search.now.clauses.now c.args.search.now.line.now c.args.left.now c.loop-b.b _ there c.args.a c.args.i c.in_ok-found.found c.in-Some.found _ c.in-Some.is c.in_ok-found.ensures c.justified.ensures
