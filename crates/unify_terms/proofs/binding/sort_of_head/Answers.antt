use Rattle.std.proofs.Common.{sym, ap, ◌∙◌}
use Rattle.fof_terms.specs.Sorts.{sort_of_term}
use Rattle.fof_terms.proofs.SortsFacts.{sort_of_term-Var}
use Rattle.unify_terms.proofs.Heads.{result_sort}
use Rattle.unify_terms.proofs.binding.sort_of_head.Goals as goal

pub returns-in-Var : goal.returns-in-Var
returns-in-Var c =
    c.sort_of_variable.ensures ∙ sym (sort_of_term-Var c.args.signature.now c.args.scope.now.sorts c.in-Var.variable) ∙ ap (sort_of_term c.args.signature.now c.args.scope.now.sorts) (sym c.in-Var.is)

pub returns-in-App : goal.returns-in-App
returns-in-App c =
    c.result_of.ensures ∙ result_sort c.args.signature.now c.args.scope.now.sorts c.in-App.function c.in-App.field-1 (λ e. c.requires (ap (sort_of_term c.args.signature.now c.args.scope.now.sorts) c.in-App.is ∙ e))
    ∙ ap (sort_of_term c.args.signature.now c.args.scope.now.sorts) (sym c.in-App.is)
