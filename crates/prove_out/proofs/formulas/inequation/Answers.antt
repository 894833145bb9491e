use Rattle.prove_out.proofs.Connectives.{inequation_written}
use Rattle.prove_out.proofs.formulas.inequation.Goals as goal

pub returns : goal.returns
returns c = inequation_written c.args.sig.now c.args.depth c.args.left.now c.args.right.now c.in_ok-left.left c.in_ok-right.right c.in_ok-left.ensures c.in_ok-right.ensures
