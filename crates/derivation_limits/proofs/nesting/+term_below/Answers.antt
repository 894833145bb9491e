use Rattle.std.proofs.Common.{◌<◌, arith, rules, get_or}
use Rattle.fof_terms.proofs.Lists.{below_greatest, greatest_more}
use Rattle.derivation_limits.specs.Nesting.{term_nesting}
use Rattle.derivation_limits.proofs.NestingFacts.{all_within, args_within, no_room}
use Rattle.derivation_limits.proofs.nesting.+term_below.Goals as goal

pub args_below-returns-then-inside-eq0 : goal.args_below-returns-then-inside-eq0
args_below-returns-then-inside-eq0 t c = no_room c.args.args.now c.args.room c.room_of-inside.result c.room_of-inside.ensures c.if-inside-eq0.true

pub args_below-returns-then-not-term_below : goal.args_below-returns-then-not-term_below
args_below-returns-then-not-term_below t c = (
  λ h. absurd (cc),
  λ h.
      let all = below_greatest term_nesting c.room_of-inside.result c.args.args.now ((args_within c.args.args.now c.args.room c.room_of-inside.result c.room_of-inside.ensures).1 h) in
      let here = all c.loop-term.term-index c.term-item.result c.loop-term-test.true in
      let small : term_nesting c.term-item.result < c.room_of-inside.result = rw c.term-item.is (omega (arith, here)) in
      c.if-not-term_below.ensures.1 small,
)

pub args_below-loop-term-preserved : goal.args_below-loop-term-preserved
args_below-loop-term-preserved t c =
    let more = greatest_more term_nesting c.args.args.now c.loop-term.term-index c.term-item.result c.loop-term-test.true in
    let small : term_nesting c.term-item.result < c.room_of-inside.result = search (rules, c.if-not-term_below.ensures) in
    let here : term_nesting (get_or c.args.args.now c.loop-term.term-index c.term-item.result) < c.room_of-inside.result = rw (← c.term-item.is) small in
    omega arith

pub args_below-returns : goal.args_below-returns
args_below-returns t c = all_within c.args.args.now c.args.room c.room_of-inside.result c.room_of-inside.ensures c.loop-term.term-index c.loop-term-test.false c.loop-term.invariant
