use Rattle.std.proofs.Common.{arith}
use Rattle.clause_form.proofs.SizeLaws.{depth_within_size}
use Rattle.clause_form.proofs.normal.norm.Goals as goal

pub norm_signed-requires : goal.norm_signed-requires
norm_signed-requires c =
    let few = depth_within_size c.args.form.now in
    omega (arith, few, c.norm_size.ensures, c.if-norm_size-gt-MAX_NORM_SIZE.false)
