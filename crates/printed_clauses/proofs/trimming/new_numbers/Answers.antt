use Rattle.std.proofs.Common.{refl}
use Rattle.printed_clauses.proofs.TrimmedFacts.{variables_step}
use Rattle.printed_clauses.proofs.trimming.new_numbers.Goals as goal

pub loop-is_kept-preserved : goal.loop-is_kept-preserved
loop-is_kept-preserved c =
    variables_step c.args.marks.now c.loop-is_kept.is_kept-index _ c.loop-is_kept.images c.push.new.self c.loop-is_kept.number c.in_ok-number.number refl c.loop-is_kept.invariant.0 c.loop-is_kept.invariant.1 c.in_ok-push.ensures.ok c.in_ok-number.ensures
