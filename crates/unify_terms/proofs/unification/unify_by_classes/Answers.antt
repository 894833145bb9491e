use Rattle.std.proofs.Common.{subst, sym}
use Rattle.std.specs.Prelude.{refl, IfOk}
use Rattle.unify_terms.specs.Unifiers.{AreSorted, Unified}
use Rattle.unify_terms.proofs.ChosenFacts.{chosen_alone}
use Rattle.unify_terms.proofs.unification.unify_by_classes.Goals as goal

pub unify_chosen-requires-clause-sorted : goal.unify_chosen-requires-clause-sorted
unify_chosen-requires-clause-sorted c = subst (AreSorted c.args.signature.now c.args.scope.now.sorts) (sym (chosen_alone _ c.args.pairs refl)) c.requires.sorted

pub returns : goal.returns
returns c = subst (λ ps. IfOk c.unify_chosen.result (λ answer. Unified c.args.signature.now c.args.scope.now.sorts c.args.scope.now.rigid ps answer)) (chosen_alone _ c.args.pairs refl) c.unify_chosen.ensures
