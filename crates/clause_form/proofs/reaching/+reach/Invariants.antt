use Rattle.clause_form.proofs.FoundFacts.{FoundUpTo}
use Rattle.clause_form.proofs.reaching.+reach.Given as goal

abbrev pub invariant-reach_each-loop-number : goal.invariant-reach_each-loop-number
invariant-reach_each-loop-number l = FoundUpTo l.paths l.forms l.number l.clauses
