use Rattle.std.proofs.Common.{ap, ◌∙◌, arith, length}
use Rattle.fof_terms.specs.Sorts.{binder_depth}
use Rattle.clause_form.proofs.SizeLaws.{depth_within_size}
use Rattle.flat_form.proofs.Depths.{body_depth}
use Rattle.flat_form.proofs.Lists.{count_within}
use Rattle.flat_form.proofs.flattening.flatten.Goals as goal

pub close_over-requires-clause-few : goal.close_over-requires-clause-few
close_over-requires-clause-few c =
    let same = ap length (c.as_slice.ensures ∙ c.in_ok-pulled.ensures.sorts) in
    omega (arith, same, count_within c.args.normal.now, c.requires.size)

pub close_over-requires-clause-depth : goal.close_over-requires-clause-depth
close_over-requires-clause-depth c =
    let same = ap binder_depth c.in_ok-pulled.ensures.body in
    omega (arith, same, body_depth c.args.normal.now, depth_within_size c.args.normal.now, c.requires.size)
