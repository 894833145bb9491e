use Rattle.clause_form.proofs.ViewLaws.{closed_view}
use Rattle.clause_form.proofs.laws.view_of_closed.Goals as goal

pub returns : goal.returns
returns c = closed_view
