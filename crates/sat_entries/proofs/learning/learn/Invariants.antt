use Rattle.sat_entries.proofs.LogFacts.{IsLearning}
use Rattle.sat_entries.proofs.learning.learn.Given as goal

abbrev pub invariant-loop-learned : goal.invariant-loop-learned
invariant-loop-learned l = IsLearning l.start l.log l.learned-index l.initial.facts l.facts l.initial.proofs l.proofs
