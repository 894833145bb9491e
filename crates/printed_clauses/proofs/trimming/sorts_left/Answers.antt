use Rattle.std.proofs.Common.{refl}
use Rattle.printed_clauses.specs.Marks.{is_marked}
use Rattle.printed_clauses.proofs.TrimmedFacts.{sorts_step}
use Rattle.printed_clauses.proofs.trimming.sorts_left.Goals as goal

pub loop-at-preserved : goal.loop-at-preserved
loop-at-preserved c =
    sorts_step (is_marked c.args.marks.now) _ c.args.sorts.now c.loop-at.kept c.push_if.new.kept c.loop-at.at _ c.loop-at-test.true refl refl c.loop-at.invariant c.in_ok-push_if.ensures
