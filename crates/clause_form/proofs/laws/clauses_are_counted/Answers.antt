use Rattle.clause_form.proofs.ClauseCount.{clauses_counted}
use Rattle.clause_form.proofs.laws.clauses_are_counted.Goals as goal

pub returns : goal.returns
returns c = clauses_counted
