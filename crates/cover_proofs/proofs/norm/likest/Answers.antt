use Rattle.std.proofs.Common.{refl, ap, ◌∙◌}
use Rattle.clause_form.specs.declared.path.Parent.{Parent}
use Rattle.cover_proofs.proofs.NormLines.{itself_alike}
use Rattle.cover_proofs.proofs.norm.likest.Goals as goal

pub returns-then-equal : goal.returns-then-equal
returns-then-equal c =
    itself_alike c.args.parents.now c.args.line.now c.args.parent c.loop-number.number c.index-parents-number.result c.requires c.loop-number-test.true c.index-parents-number.is (ap (λ (p : Parent). p.form) c.index-parents-number.is ∙ c.if-equal.ensures.0 refl)
