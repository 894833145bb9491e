use Rattle.std.proofs.Common.{◌≡◌, ap, ◌∙◌, reverse}
use Rattle.std.proofs.lemmas.List.{reverse-reverse}
use Rattle.fof_terms.specs.Scope.{scope_sorts}
use Rattle.fof_terms.proofs.ScopeFacts.{scope_sorts-Outside}
use Rattle.unify_terms.specs.Goals.{goal_sorted}
use Rattle.unify_terms.proofs.sorting.is_sorted_goal.Goals as goal

pub returns : goal.returns
returns c =
    let copy = c.in_ok-from_slice.ensures ∙ c.as_slice.ensures in
    let sorts : scope_sorts _ ≡ c.args.scope.now.sorts = scope_sorts-Outside c.as_slice-2.result ∙ ap reverse (c.as_slice-2.ensures ∙ c.in_ok-sorts.ensures ∙ ap reverse copy) ∙ reverse-reverse c.args.scope.now.sorts in
    c.goal_fits.ensures ∙ ap (λ s. goal_sorted c.args.signature.now s c.args.goal.now) sorts
