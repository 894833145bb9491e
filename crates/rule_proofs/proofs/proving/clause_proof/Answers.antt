use Rattle.rule_proofs.proofs.proving.clause_proof.Goals as goal

pub resolved-requires-clause-shown : goal.resolved-requires-clause-shown
resolved-requires-clause-shown c = (c.in-Resolution.right_lit, rw c.in-Resolution.is at c.requires.shown)

pub paramodulated-requires-clause-shown : goal.paramodulated-requires-clause-shown
paramodulated-requires-clause-shown c = rw c.in-Paramodulation.is at c.requires.shown

pub factored-requires-clause-shown : goal.factored-requires-clause-shown
factored-requires-clause-shown c = rw c.in-EqFactor.is at c.requires.shown

pub rewritten-requires-clause-shown : goal.rewritten-requires-clause-shown
rewritten-requires-clause-shown c = rw c.in-Rewrite.is at c.requires.shown
