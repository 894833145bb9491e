use Rattle.std.proofs.Common.{ap, arith, Err, ◌∙◌}
use Rattle.sort_check.proofs.front.add_sort.Goals as goal

pub unreachable-requires : goal.unreachable-requires
unreachable-requires c = let full = (c.add_sort.ensures.limit c.in-Err-Limit.field-0-0).0 (c.in-Err-Limit.is ∙ ap Err c.in-Err-Limit.field-0-is) in omega (arith, full.1, c.requires)
