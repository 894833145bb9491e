use Rattle.printed_steps.proofs.Owning.{renumbered_own, sorted_own}
use Rattle.printed_steps.proofs.laws.variables_are_own.Goals as goal

pub returns-clause-sorted : goal.returns-clause-sorted
returns-clause-sorted c = sorted_own

pub returns-clause-renumbered : goal.returns-clause-renumbered
returns-clause-renumbered c = renumbered_own
