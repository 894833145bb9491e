use Rattle.std.proofs.Common.{rules, ◌≡◌, ◌++◌, ◌∷◌, [], ap, sym, subst, refl, reverse, Some}
use Rattle.std.specs.List.{All}
use Rattle.std.specs.Option.{option_map}
use Rattle.std.proofs.lemmas.List.Elements.{All-push}
use Rattle.fof_terms.specs.Scope.{scope_sorts}
use Rattle.proof_check.specs.code.JointInstance.{joint_instance_at, IsMovable}
use Rattle.proof_check.specs.code.Chains.{joined_form, IsJoinable}
use Rattle.proof_check.proofs.Concluded.{not_true}
use Rattle.proof_check.proofs.Chains.{has_movable, few_within, chain_empty, chain_more, chain_other, chain_none}
use Rattle.proof_check.proofs.chain.with_term.Goals as goal

pub returns-in_default-clause-shown : goal.returns-in_default-clause-shown
returns-in_default-clause-shown c = λ h p co. chain_empty c.args.theory.now (scope_sorts c.args.scope.now) h c.args.term.now p (option_map joined_form c.args.found) co (ap (option_map joined_form) c.in_default.is)

pub returns-in_default-into_body-clause-shown : goal.returns-in_default-into_body-clause-shown
returns-in_default-into_body-clause-shown c = λ h p co. chain_none c.args.theory.now (scope_sorts c.args.scope.now) h c.args.term.now p (option_map joined_form c.args.found) co c.in-Some.found.terms c.in-Some.found.body (ap (option_map joined_form) c.in-Some.is) c.in_default-into_body.ensures.none

pub returns-then-not-has_sort-clause-shown : goal.returns-then-not-has_sort-clause-shown
returns-then-not-has_sort-clause-shown c = λ h p co. chain_other c.args.theory.now (scope_sorts c.args.scope.now) h c.args.term.now p (option_map joined_form c.args.found) co c.in-Some.found.terms c.in-Some.found.body (ap (option_map joined_form) c.in-Some.is) c.in-Some-into_body.sort c.in-Some-into_body.body c.in-Some-into_body.ensures.some (λ e. absurd (not_true (c.if-not-has_sort.ensures.1 e)))

pub returns-clause-shown : goal.returns-clause-shown
returns-clause-shown c =
    let pushed : c.push.new.self ≡ c.in-Some.found.terms ++ c.args.term.now ∷ [] = search (rules, c.in_ok-push.ensures.ok, c.in_ok-copy.ensures) in
    λ h p co. chain_more c.args.theory.now (scope_sorts c.args.scope.now) h c.args.term.now p (option_map joined_form c.args.found) co c.in-Some.found.terms c.in-Some.found.body (ap (option_map joined_form) c.in-Some.is) c.in-Some-into_body.sort c.in-Some-into_body.body _ c.in-Some-into_body.ensures.some (c.if-not-has_sort.ensures.0 refl) (ap (λ us. Some (joint_instance_at (reverse us) 0 c.in-Some-into_body.body)) pushed)

pub returns-clause-joinable : goal.returns-clause-joinable
returns-clause-joinable c =
    let pushed : c.push.new.self ≡ c.in-Some.found.terms ++ c.args.term.now ∷ [] = search (rules, c.in_ok-push.ensures.ok, c.in_ok-copy.ensures) in
    let before : IsJoinable c.in-Some.found = rw c.in-Some.is at c.requires.joinable in
    let movable = has_movable c.args.theory.now.vocabulary (scope_sorts c.args.scope.now) c.args.term.now c.in-Some-into_body.sort c.requires.few (c.if-not-has_sort.ensures.0 refl) in
    record {
      movable = subst (All IsMovable) (sym pushed) (All-push IsMovable c.in-Some.found.terms c.args.term.now before.movable movable);
      few_binders = few_within c.in-Some-into_body.sort c.in-Some.found.body c.in-Some-into_body.body c.in-Some-into_body.ensures.some before.few_binders;
    }
