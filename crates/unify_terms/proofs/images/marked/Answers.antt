use Rattle.std.proofs.Common.{arith, length, ◌-◌}
use Rattle.unify_terms.proofs.Pairs.{below_at}
use Rattle.unify_terms.proofs.images.marked.Goals as goal

pub index-requires : goal.index-requires
index-requires c =
    let size = c.loop-from_end.invariant in
    let test = c.loop-from_end-test.true in
    let below = below_at (length c.args.nodes.now) c.args.order.now (length c.args.order.now - 1 - c.loop-from_end.from_end) c.requires.within (omega arith) in
    omega arith

pub argument_numbers-requires : goal.argument_numbers-requires
argument_numbers-requires c =
    let test = c.loop-from_end-test.true in
    below_at (length c.args.nodes.now) c.args.order.now (length c.args.order.now - 1 - c.loop-from_end.from_end) c.requires.within (omega arith)
