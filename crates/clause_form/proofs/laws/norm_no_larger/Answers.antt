use Rattle.clause_form.proofs.NormSize.{norm_small}
use Rattle.clause_form.proofs.laws.norm_no_larger.Goals as goal

pub returns : goal.returns
returns c = norm_small
