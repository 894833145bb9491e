use Rattle.clause_proofs.proofs.Openings.{all_has_at, or_has_at, other_has}
use Rattle.clause_proofs.proofs.opening.+has_or.Goals as goal

pub returns-in-All : goal.returns-in-All
returns-in-All t c = all_has_at c.args.form.now c.in-All.field-0 c.get.result.now c.in-All.body c.has_or.result c.in-All.is c.get.ensures c.has_or.ensures

pub returns-in-Or : goal.returns-in-Or
returns-in-Or t c = or_has_at c.args.form.now c.in-Or.field-0 c.in-Or.is

pub returns-in_default : goal.returns-in_default
returns-in_default t c = other_has c.args.form.now (λ h. c.in_default.not-All h.0 h.1 h.2) (λ h. c.in_default.not-Or h.0 h.1)
