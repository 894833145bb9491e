use Rattle.sat_entries.proofs.InputFacts.{IsStating}
use Rattle.sat_entries.proofs.inputs.input_facts.Given as goal

abbrev pub invariant-loop-at : goal.invariant-loop-at
invariant-loop-at l = IsStating l.start l.clauses l.wanted l.numbers l.at l.facts l.initial.proofs l.proofs
