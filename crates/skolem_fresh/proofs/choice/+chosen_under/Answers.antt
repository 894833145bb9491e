use Rattle.std.proofs.Common.{rules}
use Rattle.fof_terms.specs.Scope.{scope_sorts}
use Rattle.fof_terms.proofs.ScopeFacts.{scope_sorts-Under}
use Rattle.fof_terms.specs.declared.form.Form.TheViews.{the_lemmas}
use Rattle.skolem_fresh.proofs.Opened.{on_ok}
use Rattle.skolem_fresh.proofs.Chosen.{code_within, code_all, code_imp, other_kind}
use Rattle.skolem_fresh.proofs.choice.+chosen_under.Goals as goal

pub chosen_under-requires : goal.chosen_under-requires
chosen_under-requires t c = (
  search (rules, the_lemmas),
  code_within c.args.theory.now.vocabulary (scope_sorts c.args.scope.now) _ c.args.line.now c.get.result.now c.in-All.body c.in-All.sort (scope_sorts-Under c.in-All.sort c.args.scope) c.in-All.is c.get.ensures c.requires,
)

pub returns-in-All : goal.returns-in-All
returns-in-All t c =
    on_ok c.chosen_under.result
    (λ answer h. code_all c.args.theory.now (scope_sorts c.args.scope.now) _ c.args.line.now c.get.result.now c.in-All.body c.in-All.sort answer (scope_sorts-Under c.in-All.sort c.args.scope) c.in-All.is c.get.ensures h)
    c.chosen_under.ensures

pub returns-in-Imp : goal.returns-in-Imp
returns-in-Imp t c =
    on_ok c.chosen.result
    (λ answer h. code_imp c.args.theory.now (scope_sorts c.args.scope.now) c.args.line.now c.in-Imp.left c.in-Imp.right c.get-in-Imp.result.now c.get-in-Imp-2.result.now answer c.in-Imp.is c.get-in-Imp.ensures c.get-in-Imp-2.ensures h)
    c.chosen.ensures

pub returns-in_default : goal.returns-in_default
returns-in_default t c = other_kind c.args.theory.now (scope_sorts c.args.scope.now) c.args.line.now c.in_default.not-All c.in_default.not-Imp
