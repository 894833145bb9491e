use Rattle.std.proofs.Common.{◌≡◌, take, map}
use Rattle.clause_form.specs.Images.{image}
use Rattle.step_clauses.specs.code.Bound.{terms_in}
use Rattle.step_clauses.proofs.skolemizing.+image.Given as goal

abbrev pub invariant-image_of_all-loop-term : goal.invariant-image_of_all-loop-term
invariant-image_of_all-loop-term l = l.made ≡ map (image (terms_in l.bound)) (take l.term-index l.terms)
