use Rattle.std.proofs.Common.{rules, refl, Some}
use Rattle.proof_check.proofs.Concluded.{not_true}
use Rattle.proof_check.proofs.ConcludedOver.{reach_of_all, all_e_yes, all_e_no, all_e_none}
use Rattle.fof_terms.specs.Scope.{scope_sorts}
use Rattle.proof_check.proofs.quantifiers.specialized.Goals as goal

pub instantiate-requires : goal.instantiate-requires
instantiate-requires c = reach_of_all c.args.theory.now.vocabulary (scope_sorts c.args.scope.now) c.args.term.now c.in-Some.sort c.in-Some.body.now (c.if-has_sort.ensures.0 refl) (c.requires _ c.in-Some.ensures.some)

pub returns-in_ok-instance-in-Some : goal.returns-in_ok-instance-in-Some
returns-in_ok-instance-in-Some c = λ h p cp. all_e_yes c.args.theory.now (scope_sorts c.args.scope.now) h c.args.term.now p c.args.shown.now (Some _) c.in-Some.sort c.in-Some.body.now cp c.in-Some.ensures.some (c.if-has_sort.ensures.0 refl) (search rules)

pub returns-else-has_sort : goal.returns-else-has_sort
returns-else-has_sort c = λ h p cp. all_e_no c.args.theory.now (scope_sorts c.args.scope.now) h c.args.term.now p c.args.shown.now c.in-Some.sort c.in-Some.body.now cp c.in-Some.ensures.some (λ e. absurd (not_true (c.if-has_sort.ensures.1 e)))

pub returns-in-None : goal.returns-in-None
returns-in-None c = λ h p cp. all_e_none c.args.theory.now (scope_sorts c.args.scope.now) h c.args.term.now p c.args.shown.now cp c.in-None.ensures.none
