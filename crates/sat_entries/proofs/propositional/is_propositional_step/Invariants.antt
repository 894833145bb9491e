use Rattle.std.proofs.Common.{take}
use Rattle.sat_entries.proofs.PropositionalFacts.{ArePropositional}
use Rattle.sat_entries.proofs.propositional.is_propositional_step.Given as goal

abbrev pub invariant-loop-parent : goal.invariant-loop-parent
invariant-loop-parent l = ArePropositional (take l.parent-index l.parents)
