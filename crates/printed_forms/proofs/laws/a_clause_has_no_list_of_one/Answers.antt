use Rattle.printed_forms.proofs.Clauses.{closed_listed}
use Rattle.printed_forms.proofs.laws.a_clause_has_no_list_of_one.Goals as goal

pub returns : goal.returns
returns c = closed_listed
