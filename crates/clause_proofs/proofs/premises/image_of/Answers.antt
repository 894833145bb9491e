use Rattle.std.proofs.Common.{◌∙◌}
use Rattle.derive_kit.proofs.Built.{ok_map}
use Rattle.unify_terms.specs.Substitution.{image_at}
use Rattle.clause_proofs.proofs.Instances.{applied_image}
use Rattle.clause_proofs.proofs.premises.image_of.Goals as goal

pub returns : goal.returns
returns c = ok_map c.apply.result (λ made e. e ∙ applied_image (image_at c.args.subst.now) c.args.term.now) c.apply.ensures
