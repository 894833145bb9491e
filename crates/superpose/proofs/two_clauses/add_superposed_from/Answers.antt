use Rattle.std.proofs.Common.{arith, sym, subst}
use Rattle.clause_rules.specs.Steps.{scope_of_both}
use Rattle.superpose.specs.declared.used.Spot.{Spot}
use Rattle.superpose.specs.Inferences.{SuperposesAt}
use Rattle.superpose.specs.Made.{IsBestAt}
use Rattle.superpose.proofs.Additions.{adds_found}
use Rattle.superpose.proofs.Gathered.{element_lent, elements_added, side_not_less}
use Rattle.superpose.proofs.UseFacts.{eligible_within}
use Rattle.superpose.proofs.two_clauses.add_superposed_from.Goals as goal

pub superpose_at-requires-clause-i : goal.superpose_at-requires-clause-i
superpose_at-requires-clause-i c = eligible_within c.args.c.now.lits c.args.side.lit c.requires.side.0

pub superpose_at-requires-clause-first : goal.superpose_at-requires-clause-first
superpose_at-requires-clause-first c = c.requires.side.0

pub superpose_at-requires-clause-not_less : goal.superpose_at-requires-clause-not_less
superpose_at-requires-clause-not_less c = side_not_less c.args.c.now.lits c.args.side c.requires.side

pub superpose_at-requires-clause-j : goal.superpose_at-requires-clause-j
superpose_at-requires-clause-j c =
    eligible_within c.args.d.now.lits c.index-spots-at.result.lit
    (c.requires.spots c.index-spots-at.result (c.loop-at.at, c.loop-at-test.true, sym c.index-spots-at.is)).0

pub superpose_at-requires-clause-second : goal.superpose_at-requires-clause-second
superpose_at-requires-clause-second c =
    (c.requires.spots c.index-spots-at.result (c.loop-at.at, c.loop-at-test.true, sym c.index-spots-at.is)).0

pub loop-at-preserved : goal.loop-at-preserved
loop-at-preserved c =
    let scope = scope_of_both c.args.c.now c.args.d.now in
    let spot : Spot = c.index-spots-at.result in
    element_lent c.args.sig.now scope Spot (λ (s : Spot). SuperposesAt c.args.c.now c.args.d.now c.args.side.lit c.args.side.flipped s.lit s.place)
    c.args.spots.now c.loop-at.at spot c.args.made.now c.loop-at.made c.keep.new.made
    c.loop-at-test.true c.index-spots-at.is c.loop-at.invariant
    (adds_found c.args.sig.now scope (SuperposesAt c.args.c.now c.args.d.now c.args.side.lit c.args.side.flipped spot.lit spot.place)
    c.loop-at.made c.keep.new.made c.in_ok-found.found
    (subst (λ place. IsBestAt c.args.sig.now scope (SuperposesAt c.args.c.now c.args.d.now c.args.side.lit c.args.side.flipped spot.lit place) c.in_ok-found.found)
    c.as_slice.ensures c.in_ok-found.ensures) c.in_ok-keep.ensures)

pub returns : goal.returns
returns c =
    let end = c.loop-at-test.false in
    elements_added c.args.sig.now (scope_of_both c.args.c.now c.args.d.now) Spot (λ (s : Spot). SuperposesAt c.args.c.now c.args.d.now c.args.side.lit c.args.side.flipped s.lit s.place)
    c.args.spots.now c.loop-at.at c.args.made.now c.loop-at.made (omega arith) c.loop-at.invariant
