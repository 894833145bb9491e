use Rattle.std.proofs.Common.{ap, arith, true}
use Rattle.clause_form.specs.Sizes.{norm_size_of}
use Rattle.clause_form.proofs.NormSize.{norm_small}
use Rattle.flat_form.proofs.Closed.{not_wide}
use Rattle.flat_form.proofs.flattening.flat.Goals as goal

pub flatten-requires-clause-size : goal.flatten-requires-clause-size
flatten-requires-clause-size c =
    let same = ap norm_size_of c.in_ok-normal.ensures.ok in
    omega (arith, same, norm_small c.args.form.now true, not_wide (norm_size_of c.args.form.now) _ c.in_ok-normal.ensures.wide (λ e. cc))

pub flatten-requires-clause-room : goal.flatten-requires-clause-room
flatten-requires-clause-room c =
    rw c.in_ok-normal.ensures.ok (c.requires.room (not_wide (norm_size_of c.args.form.now) _ c.in_ok-normal.ensures.wide (λ e. cc)))
