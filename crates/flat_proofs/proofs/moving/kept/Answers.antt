use Rattle.std.proofs.Common.{ap, sym, ◌∙◌, refl}
use Rattle.flat_form.specs.Flat.{Pulled}
use Rattle.flat_proofs.proofs.Together.{kept_leads}
use Rattle.flat_proofs.proofs.moving.kept.Goals as goal

pub returns-clause-sorts : goal.returns-clause-sorts
returns-clause-sorts c = c.new-sorts.ensures ∙ ap (λ (p : Pulled). p.sorts) (sym c.requires)

pub returns-clause-body : goal.returns-clause-body
returns-clause-body c = c.in_ok-body.ensures ∙ ap (λ (p : Pulled). p.body) (sym c.requires)

pub returns-clause-part : goal.returns-clause-part
returns-clause-part c = λ forth. kept_leads forth c.args.form.now _ refl c.requires
