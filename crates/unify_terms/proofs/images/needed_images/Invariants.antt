use Rattle.std.proofs.Common.{reverse, take}
use Rattle.unify_terms.specs.code.Images.{AreNeeded}
use Rattle.unify_terms.proofs.images.needed_images.Given as goal

abbrev pub invariant-loop-class : goal.invariant-loop-class
invariant-loop-class l = AreNeeded l.nodes l.classes l.needed (reverse (take l.class-index l.order)) l.images.items
