use Rattle.std.proofs.Common.{◌∙◌, ap, reverse, map, refl}
use Rattle.clause_form.specs.Covers.{lit_image}
use Rattle.unify_terms.specs.Substitution.{image_at}
use Rattle.clause_proofs.proofs.Instances.{made_premise}
use Rattle.clause_proofs.proofs.premises.instance_of_part.Goals as goal

pub returns : goal.returns
returns c =
    made_premise c.args.own c.args.opened.now c.args.subst c.in_ok-terms.terms c.in_ok-lits.lits c.args.own c.in_ok-part.part (c.in_ok-terms.ensures ∙ ap reverse c.subst.view_is) (c.in_ok-lits.ensures ∙ ap (map (lit_image (image_at c.args.subst))) c.as_slice.ensures) refl c.in_ok-part.ensures
