use Rattle.std.specs.Prelude.{ℕ}
use Rattle.std.proofs.Common.{arith, get_or}
use Rattle.std.proofs.lemmas.List.Elements.{Contains-get_or}
use Rattle.clause_rules.specs.Steps.{scope_of_both}
use Rattle.superpose.specs.Inferences.{ResolvesAt}
use Rattle.superpose.proofs.Additions.{adds_found}
use Rattle.superpose.proofs.Gathered.{element_added, elements_added}
use Rattle.superpose.proofs.UseFacts.{eligible_within}
use Rattle.superpose.proofs.two_clauses.add_resolved_with.Goals as goal

pub resolve_at-requires-clause-second : goal.resolve_at-requires-clause-second
resolve_at-requires-clause-second c =
    c.requires.seconds (get_or c.args.seconds.now c.loop-at.at 0) (Contains-get_or c.args.seconds.now c.loop-at.at 0 c.loop-at-test.true)

pub resolve_at-requires-clause-j : goal.resolve_at-requires-clause-j
resolve_at-requires-clause-j c =
    eligible_within c.args.d.now.lits (get_or c.args.seconds.now c.loop-at.at 0)
    (c.requires.seconds (get_or c.args.seconds.now c.loop-at.at 0) (Contains-get_or c.args.seconds.now c.loop-at.at 0 c.loop-at-test.true))

pub loop-at-preserved : goal.loop-at-preserved
loop-at-preserved c =
    element_added c.args.sig.now (scope_of_both c.args.c.now c.args.d.now) ℕ (λ j. ResolvesAt c.args.c.now c.args.d.now c.args.i j)
    c.args.seconds.now c.loop-at.at 0 c.args.made.now c.loop-at.made c.keep.new.made
    c.loop-at-test.true c.loop-at.invariant
    (adds_found c.args.sig.now (scope_of_both c.args.c.now c.args.d.now) (ResolvesAt c.args.c.now c.args.d.now c.args.i (get_or c.args.seconds.now c.loop-at.at 0))
    c.loop-at.made c.keep.new.made c.in_ok-found.found c.in_ok-found.ensures c.in_ok-keep.ensures)

pub returns : goal.returns
returns c =
    let end = c.loop-at-test.false in
    elements_added c.args.sig.now (scope_of_both c.args.c.now c.args.d.now) ℕ (λ j. ResolvesAt c.args.c.now c.args.d.now c.args.i j)
    c.args.seconds.now c.loop-at.at c.args.made.now c.loop-at.made (omega arith) c.loop-at.invariant
