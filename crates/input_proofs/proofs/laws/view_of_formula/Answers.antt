use Rattle.input_proofs.proofs.ClauseFormulas.{formula_view}
use Rattle.input_proofs.proofs.laws.view_of_formula.Goals as goal

pub returns : goal.returns
returns c = formula_view
