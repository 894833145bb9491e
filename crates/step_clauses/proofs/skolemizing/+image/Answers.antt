use Rattle.std.proofs.Common.{◌∙◌}
use Rattle.clause_form.proofs.Ok.{ok_map}
use Rattle.step_clauses.proofs.SkolemizingFacts.{var_image}
use Rattle.step_clauses.proofs.skolemizing.+image.Goals as goal

pub image-returns-in-Var : goal.image-returns-in-Var
image-returns-in-Var t c = ok_map c.term_at.result (λ made e. e ∙ var_image c.args.bound.now c.args.term.now c.in-Var.distance c.in-Var.is) c.term_at.ensures
