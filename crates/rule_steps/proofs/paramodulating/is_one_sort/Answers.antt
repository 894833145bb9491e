use Rattle.std.proofs.Common.{ap, ◌∙◌}
use Rattle.fof_terms.proofs.ScopeFacts.{scope_sorts-Outside}
use Rattle.fof_terms.specs.Sorts.{sort_of_term}
use Rattle.rule_steps.proofs.ParamodulationCode.{one_sort_told, turned_back}
use Rattle.rule_steps.proofs.paramodulating.is_one_sort.Goals as goal

pub returns : goal.returns
returns c =
    let sorts = scope_sorts-Outside c.as_slice-2.result ∙ turned_back c.args.scope.now.sorts c.as_slice-2.result.now c.as_slice.result.now c.in_ok-sorts.sorts c.as_slice.ensures c.in_ok-sorts.ensures c.as_slice-2.ensures in
    one_sort_told c.eq.result c.sort_of-first.result c.sort_of-second.result _ _ c.eq.ensures (c.sort_of-first.ensures ∙ ap (λ ss. sort_of_term c.args.sig.now ss c.args.left.now) sorts) (c.sort_of-second.ensures ∙ ap (λ ss. sort_of_term c.args.sig.now ss c.args.right.now) sorts)
