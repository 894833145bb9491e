use Rattle.skolemized_lines.proofs.Opening.{others_apply}
use Rattle.skolemized_lines.proofs.laws.steps_from_given_formulas_apply.Goals as goal

pub returns : goal.returns
returns c = λ v given limit d few less ready found. others_apply v given limit d ready found few less
