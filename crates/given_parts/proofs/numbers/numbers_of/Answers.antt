use Rattle.std.proofs.Common.{◌≤◌, ◌+◌, arith, get_or, false}
use Rattle.given_parts.specs.Numbers.{firsts_from, numbers_from}
use Rattle.given_parts.specs.Parts.{ex_count_of, ex_counts}
use Rattle.given_parts.proofs.PartFacts.{firsts_step, numbers_step, room_here, room_step, firsts_end, numbers_end}
use Rattle.given_parts.proofs.numbers.numbers_of.Goals as goal

pub push_numbers-requires : goal.push_numbers-requires
push_numbers-requires c =
    let here : c.loop-at.next + ex_count_of c.index-parts-at.result ≤ c.args.first + ex_counts c.args.parts.now =
    room_here c.args.parts.now c.loop-at.at c.index-parts-at.result c.loop-at-test.true c.index-parts-at.is c.loop-at.next (c.args.first + ex_counts c.args.parts.now) c.loop-at.invariant.room in
    omega (arith, here, c.requires.room)

pub next_behind-next-requires : goal.next_behind-next-requires
next_behind-next-requires c =
    let here : c.loop-at.next + ex_count_of c.index-parts-at.result ≤ c.args.first + ex_counts c.args.parts.now =
    room_here c.args.parts.now c.loop-at.at c.index-parts-at.result c.loop-at-test.true c.index-parts-at.is c.loop-at.next (c.args.first + ex_counts c.args.parts.now) c.loop-at.invariant.room in
    omega (arith, here, c.requires.room)

pub loop-at-preserved : goal.loop-at-preserved
loop-at-preserved c = record {
  firsts = firsts_step c.args.used.now c.args.parts.now c.loop-at.at c.index-parts-at.result c.requires.count c.loop-at-test.true c.index-parts-at.is c.loop-at.next c.next_behind-next.result c.loop-at.firsts c.push.new.self (firsts_from c.args.first c.args.used.now c.args.parts.now) c.loop-at.invariant.firsts
      c.in_ok-push.ensures.ok c.next_behind-next.ensures;
  all = numbers_step c.args.used.now c.args.parts.now c.loop-at.at c.index-parts-at.result c.requires.count c.loop-at-test.true c.index-parts-at.is c.loop-at.next c.next_behind-next.result c.loop-at.all c.push_numbers.new.numbers (numbers_from c.args.first c.args.used.now c.args.parts.now) c.loop-at.invariant.all
      c.in_ok-push_numbers.ensures c.next_behind-next.ensures;
  room = room_step c.args.parts.now c.loop-at.at c.index-parts-at.result c.loop-at-test.true c.index-parts-at.is (get_or c.args.used.now c.loop-at.at false) c.loop-at.next c.next_behind-next.result (c.args.first + ex_counts c.args.parts.now) c.loop-at.invariant.room c.next_behind-next.ensures;
}

pub returns-clause-firsts : goal.returns-clause-firsts
returns-clause-firsts c = firsts_end c.args.used.now c.args.parts.now c.loop-at.at c.loop-at.next c.loop-at.firsts (firsts_from c.args.first c.args.used.now c.args.parts.now) c.loop-at-test.false c.loop-at.invariant.firsts

pub returns-clause-all : goal.returns-clause-all
returns-clause-all c = numbers_end c.args.used.now c.args.parts.now c.loop-at.at c.loop-at.next c.loop-at.all (numbers_from c.args.first c.args.used.now c.args.parts.now) c.loop-at-test.false c.loop-at.invariant.all
