use Rattle.std.proofs.Common.{rules, ◌≡◌, refl, Some}
use Rattle.proof_check.proofs.Concluded.{not_true}
use Rattle.proof_check.proofs.ConcludedOver.{reach_of_body, right_sort, subst_yes, subst_no, subst_none}
use Rattle.fof_terms.specs.Scope.{scope_sorts}
use Rattle.fof_terms.specs.Instance.{instance_at}
use Rattle.proof_check.proofs.quantifiers.substituted.Goals as goal

pub returns-then-not-has_sort : goal.returns-then-not-has_sort
returns-then-not-has_sort c = λ h p q cp cq. subst_no c.args.theory.now (scope_sorts c.args.scope.now) h c.args.sort c.args.body.now p q c.args.sides.now c.args.shown.now c.in-Some.left.now c.in-Some.right.now cp cq c.in-Some.ensures.some (λ e body i. absurd (not_true (c.if-not-has_sort.ensures.1 e)))

pub returns-then-not-body_fits : goal.returns-then-not-body_fits
returns-then-not-body_fits c = λ h p q cp cq. subst_no c.args.theory.now (scope_sorts c.args.scope.now) h c.args.sort c.args.body.now p q c.args.sides.now c.args.shown.now c.in-Some.left.now c.in-Some.right.now cp cq c.in-Some.ensures.some (λ e body i. absurd (not_true (c.if-not-body_fits.ensures.1 body)))

pub instantiate-requires : goal.instantiate-requires
instantiate-requires c = reach_of_body c.args.theory.now.vocabulary (scope_sorts c.args.scope.now) c.in-Some.left.now c.args.sort c.args.body.now c.requires.scope (c.if-not-has_sort.ensures.0 refl) (c.if-not-body_fits.ensures.0 refl)

pub returns-then-not-is_shown : goal.returns-then-not-is_shown
returns-then-not-is_shown c =
    let same : c.get.result.now ≡ instance_at c.in-Some.left.now 0 c.args.body.now = search rules in
    λ h p q cp cq. subst_no c.args.theory.now (scope_sorts c.args.scope.now) h c.args.sort c.args.body.now p q c.args.sides.now c.args.shown.now c.in-Some.left.now c.in-Some.right.now cp cq c.in-Some.ensures.some (λ e body i. absurd (not_true (c.if-not-is_shown.ensures.1 (rw same i))))

pub instantiate-requires-in-Some : goal.instantiate-requires-in-Some
instantiate-requires-in-Some c =
    let sort = right_sort c.args.theory.now.vocabulary (scope_sorts c.args.scope.now) c.in-Some.left.now c.in-Some.right.now c.args.sort (c.requires.sorted _ c.in-Some.ensures.some) (c.if-not-has_sort.ensures.0 refl) in
    reach_of_body c.args.theory.now.vocabulary (scope_sorts c.args.scope.now) c.in-Some.right.now c.args.sort c.args.body.now c.requires.scope sort (c.if-not-body_fits.ensures.0 refl)

pub returns-in_ok-whole-in-Some : goal.returns-in_ok-whole-in-Some
returns-in_ok-whole-in-Some c =
    let same : c.get.result.now ≡ instance_at c.in-Some.left.now 0 c.args.body.now = search rules in
    let at : c.args.shown.now ≡ Some (instance_at c.in-Some.left.now 0 c.args.body.now) = rw (← same) (c.if-not-is_shown.ensures.0 refl) in
    λ h p q cp cq. subst_yes c.args.theory.now (scope_sorts c.args.scope.now) h c.args.sort c.args.body.now p q c.args.sides.now c.args.shown.now (Some _) c.in-Some.left.now c.in-Some.right.now cp cq c.in-Some.ensures.some (c.if-not-has_sort.ensures.0 refl) (c.if-not-body_fits.ensures.0 refl) at (search rules)

pub returns-in-None : goal.returns-in-None
returns-in-None c = λ h p q cp cq. subst_none c.args.theory.now (scope_sorts c.args.scope.now) h c.args.sort c.args.body.now p q c.args.sides.now cp c.in-None.ensures.none
