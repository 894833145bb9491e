use Rattle.std.proofs.Common.{arith}
use Rattle.limited_items.proofs.PremiseFacts.{large_counts, others_do_not}
use Rattle.limited_items.proofs.premises.large_count.Goals as goal

pub returns-then-norm_size-gt-MAX_NORM_SIZE : goal.returns-then-norm_size-gt-MAX_NORM_SIZE
returns-then-norm_size-gt-MAX_NORM_SIZE c = large_counts c.args.form.now c.norm_size.result c.norm_size.ensures (omega arith)

pub returns-else-norm_size-gt-MAX_NORM_SIZE : goal.returns-else-norm_size-gt-MAX_NORM_SIZE
returns-else-norm_size-gt-MAX_NORM_SIZE c = others_do_not c.args.form.now c.norm_size.result c.norm_size.ensures (omega arith)
