use Rattle.std.proofs.Common.{◌<◌, arith, rules, get_or}
use Rattle.fof_terms.proofs.Lists.{below_greatest, greatest_more}
use Rattle.derivation_limits.specs.Nesting.{nesting_of}
use Rattle.derivation_limits.specs.code.Units.{unit_nesting}
use Rattle.derivation_limits.proofs.NestingFacts.{unit_within}
use Rattle.derivation_limits.proofs.nesting.+nests_below.Goals as goal

pub units_below-returns-then-not-nests_below : goal.units_below-returns-then-not-nests_below
units_below-returns-then-not-nests_below t c = (
  λ h. absurd (cc),
  λ h.
      let all = below_greatest unit_nesting c.args.room c.args.formulas.now h in
      let here = all c.loop-formula.formula-index c.formula-item.result c.loop-formula-test.true in
      let small : unit_nesting c.formula-item.result < c.args.room = rw c.formula-item.is (omega (arith, here)) in
      c.if-not-nests_below.ensures.1 ((unit_within c.formula-item.result c.args.room c.room_in.result c.room_in.ensures).1 small),
)

pub units_below-loop-formula-preserved : goal.units_below-loop-formula-preserved
units_below-loop-formula-preserved t c =
    let more = greatest_more unit_nesting c.args.formulas.now c.loop-formula.formula-index c.formula-item.result c.loop-formula-test.true in
    let inside : nesting_of c.formula-item.result < c.room_in.result = search (rules, c.if-not-nests_below.ensures) in
    let small : unit_nesting c.formula-item.result < c.args.room = (unit_within c.formula-item.result c.args.room c.room_in.result c.room_in.ensures).0 inside in
    let here : unit_nesting (get_or c.args.formulas.now c.loop-formula.formula-index c.formula-item.result) < c.args.room = rw (← c.formula-item.is) small in
    omega arith
