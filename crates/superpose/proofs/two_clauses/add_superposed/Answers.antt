use Rattle.std.proofs.Common.{arith, get_or, false}
use Rattle.std.proofs.lemmas.List.Elements.{Contains-get_or}
use Rattle.clause_rules.specs.Steps.{scope_of_both}
use Rattle.superpose.specs.declared.used.Side.{Side}
use Rattle.superpose.specs.code.Listed.{SuperposesFrom}
use Rattle.superpose.proofs.Gathered.{element_added, elements_added}
use Rattle.superpose.proofs.two_clauses.add_superposed.Goals as goal

abbrev some : Side
some = record { lit = 0; flipped = false }

pub add_superposed_from-requires-clause-side : goal.add_superposed_from-requires-clause-side
add_superposed_from-requires-clause-side c =
    c.requires.sides (get_or c.args.sides.now c.loop-at.at some) (Contains-get_or c.args.sides.now c.loop-at.at some c.loop-at-test.true)

pub loop-at-preserved : goal.loop-at-preserved
loop-at-preserved c =
    element_added c.args.sig.now (scope_of_both c.args.c.now c.args.d.now) Side (SuperposesFrom c.args.c.now c.args.d.now c.args.spots.now)
    c.args.sides.now c.loop-at.at some c.args.made.now c.loop-at.made c.add_superposed_from.new.made
    c.loop-at-test.true c.loop-at.invariant c.in_ok-add_superposed_from.ensures

pub returns : goal.returns
returns c =
    let end = c.loop-at-test.false in
    elements_added c.args.sig.now (scope_of_both c.args.c.now c.args.d.now) Side (SuperposesFrom c.args.c.now c.args.d.now c.args.spots.now)
    c.args.sides.now c.loop-at.at c.args.made.now c.loop-at.made (omega arith) c.loop-at.invariant
