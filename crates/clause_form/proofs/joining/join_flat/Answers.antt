use Rattle.std.proofs.Common.{refl}
use Rattle.clause_form.proofs.Cases.{ended, not_ended}
use Rattle.clause_form.proofs.joining.join_flat.Goals as goal

pub returns-then-one_ends : goal.returns-then-one_ends
returns-then-one_ends c = ended c.args.positive c.one_ends.result c.args.flat c.as_slice.result.now c.node.result c.as_slice.ensures c.one_ends.ensures c.if-one_ends.true (rw (c.node.ensures, c.new.ensures) refl)

pub returns : goal.returns
returns c = not_ended c.args.positive c.one_ends.result c.args.flat c.as_slice.result.now c.alone.result c.as_slice.ensures c.one_ends.ensures c.if-one_ends.false c.alone.ensures
