use Rattle.unify_terms.specs.code.Shown.{AreShown}
use Rattle.unify_terms.proofs.showing.images_shown.Given as goal

abbrev pub invariant-loop-variable : goal.invariant-loop-variable
invariant-loop-variable l = AreShown l.bound l.variable l.images.items
