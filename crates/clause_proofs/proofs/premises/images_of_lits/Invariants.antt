use Rattle.std.proofs.Common.{◌≡◌, take, map}
use Rattle.clause_form.specs.Covers.{lit_image}
use Rattle.unify_terms.specs.Substitution.{image_at}
use Rattle.clause_proofs.proofs.premises.images_of_lits.Given as goal

abbrev pub invariant-loop-lit : goal.invariant-loop-lit
invariant-loop-lit l = l.made ≡ map (lit_image (image_at l.subst)) (take l.lit-index l.lits)
