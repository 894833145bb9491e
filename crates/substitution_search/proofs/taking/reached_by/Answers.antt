use Rattle.std.proofs.Common.{arith}
use Rattle.substitution_search.proofs.TakenSoFar.{made_taken}
use Rattle.substitution_search.proofs.Room.{taken_room}
use Rattle.substitution_search.specs.CoverSearch.{near}
use Rattle.substitution_search.proofs.taking.reached_by.Goals as goal

pub returns : goal.returns
returns c =
    made_taken c.args.form.now c.args.choices.now c.in_ok-reversed.field-0 c.new.result c.new-2.result c.new-names.result c.in_ok-path.path c.take.new.taking c.take.new.names c.in_ok-order.order c.as_slice-2.result.now c.len.result c.in_ok-lits.lits c.as_slice.result.now
    c.in_ok-reversed.ensures c.new.ensures c.new-2.ensures c.new-names.ensures c.in_ok-path.ensures c.in_ok-order.ensures c.len.ensures c.as_slice-2.ensures c.as_slice.ensures c.in_ok-lits.ensures

pub numbers_below-requires : goal.numbers_below-requires
numbers_below-requires c = omega (arith, c.len.ensures, taken_room c.args.form.now (near c.new-names.result) (record { choices = c.in_ok-reversed.field-0; sorts = c.new.result; lits = c.new-2.result }) c.take.new.taking c.new.ensures c.in_ok-path.ensures.1 c.requires.small)
