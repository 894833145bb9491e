use Rattle.std.proofs.Common.{sym, ap, ◌∙◌}
use Rattle.skolem_fresh.proofs.Opened.{on_ok}
use Rattle.skolem_fresh.proofs.Leading.{part_shows, all_terms}
use Rattle.skolem_fresh.proofs.telling.chosen_part.Goals as goal

pub returns : goal.returns
returns c =
    on_ok c.imp_e.result
    (λ made e. part_shows c.args.chosen.now.variables c.loop-variable.terms c.args.number c.in_ok-own.own c.in_ok-instance.instance c.args.part made (all_terms c.args.chosen.now.variables c.as_slice-variable-items.result.now c.loop-variable.terms c.loop-variable.variable-index c.as_slice-variable-items.ensures c.loop-variable.invariant c.loop-variable-test.false) c.in_ok-own.ensures c.in_ok-instance.ensures e)
    c.imp_e.ensures
