use Rattle.clause_form.proofs.ClauseWaysFacts.{reached_is_listed, listed_is_reached}
use Rattle.clause_form.proofs.laws.clauses_by_paths.Goals as goal

pub returns-clause-listed : goal.returns-clause-listed
returns-clause-listed c = reached_is_listed

pub returns-clause-reached : goal.returns-clause-reached
returns-clause-reached c = listed_is_reached
