use Rattle.std.proofs.Common.{◌≡◌, ap, ◌∙◌, reverse}
use Rattle.std.specs.List.{list_all}
use Rattle.std.proofs.lemmas.List.{reverse-reverse}
use Rattle.fof_terms.specs.Scope.{scope_sorts}
use Rattle.fof_terms.proofs.ScopeFacts.{scope_sorts-Outside}
use Rattle.unify_terms.specs.Goals.{pair_sorted}
use Rattle.unify_terms.proofs.Searches.{pairs_tested}
use Rattle.unify_terms.proofs.sorting.are_sorted.Goals as goal

pub returns : goal.returns
returns c =
    let copy = c.in_ok-from_slice.ensures ∙ c.as_slice.ensures in
    let sorts : scope_sorts _ ≡ c.args.scope.now.sorts = scope_sorts-Outside c.as_slice-2.result ∙ ap reverse (c.as_slice-2.ensures ∙ c.in_ok-sorts.ensures ∙ ap reverse copy) ∙ reverse-reverse c.args.scope.now.sorts in
    pairs_tested c.args.signature.now c.args.scope.now.sorts c.args.pairs.now c.all_fit.result (c.all_fit.ensures ∙ ap (λ s. list_all (pair_sorted c.args.signature.now s) c.args.pairs.now) sorts)
