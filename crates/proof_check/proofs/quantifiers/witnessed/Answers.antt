use Rattle.std.proofs.Common.{rules, ◌≡◌, refl, Some}
use Rattle.proof_check.proofs.Concluded.{not_true}
use Rattle.proof_check.proofs.ConcludedOver.{reach_of_body, ex_i_yes, ex_i_no}
use Rattle.fof_terms.specs.Scope.{scope_sorts}
use Rattle.fof_terms.specs.Instance.{instance_at}
use Rattle.proof_check.proofs.quantifiers.witnessed.Goals as goal

pub returns-then-not-has_sort : goal.returns-then-not-has_sort
returns-then-not-has_sort c = λ h p cp. ex_i_no c.args.theory.now (scope_sorts c.args.scope.now) h c.args.sort c.args.body.now c.args.term.now p c.args.shown.now cp (λ body few e i. absurd (not_true (c.if-not-has_sort.ensures.1 e)))

pub returns-then-not-body_fits : goal.returns-then-not-body_fits
returns-then-not-body_fits c = λ h p cp. ex_i_no c.args.theory.now (scope_sorts c.args.scope.now) h c.args.sort c.args.body.now c.args.term.now p c.args.shown.now cp (λ body few e i. absurd (not_true (c.if-not-body_fits.ensures.1 body)))

pub returns-then-not-is_within : goal.returns-then-not-is_within
returns-then-not-is_within c = λ h p cp. ex_i_no c.args.theory.now (scope_sorts c.args.scope.now) h c.args.sort c.args.body.now c.args.term.now p c.args.shown.now cp (λ body few e i. absurd (not_true (c.if-not-is_within.ensures.1 few)))

pub instantiate-requires : goal.instantiate-requires
instantiate-requires c = reach_of_body c.args.theory.now.vocabulary (scope_sorts c.args.scope.now) c.args.term.now c.args.sort c.args.body.now c.requires.scope (c.if-not-has_sort.ensures.0 refl) (c.if-not-body_fits.ensures.0 refl)

pub returns-then-not-is_shown : goal.returns-then-not-is_shown
returns-then-not-is_shown c =
    let same : c.get.result.now ≡ instance_at c.args.term.now 0 c.args.body.now = search rules in
    λ h p cp. ex_i_no c.args.theory.now (scope_sorts c.args.scope.now) h c.args.sort c.args.body.now c.args.term.now p c.args.shown.now cp (λ body few e i. absurd (not_true (c.if-not-is_shown.ensures.1 (rw same i))))

pub returns : goal.returns
returns c =
    let same : c.get.result.now ≡ instance_at c.args.term.now 0 c.args.body.now = search rules in
    let at : c.args.shown.now ≡ Some (instance_at c.args.term.now 0 c.args.body.now) = rw (← same) (c.if-not-is_shown.ensures.0 refl) in
    λ h p cp. ex_i_yes c.args.theory.now (scope_sorts c.args.scope.now) h c.args.sort c.args.body.now c.args.term.now p c.args.shown.now (Some _) cp c.requires.scope (c.if-not-body_fits.ensures.0 refl) (c.if-not-is_within.ensures.0 refl) (c.if-not-has_sort.ensures.0 refl) at (search rules)
