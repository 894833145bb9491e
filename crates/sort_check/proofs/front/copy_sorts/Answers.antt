use Rattle.std.proofs.Common.{sym, ◌∙◌}
use Rattle.sort_check.proofs.Fronting.{sort_added}
use Rattle.sort_check.proofs.front.copy_sorts.Goals as goal

pub loop-number-preserved : goal.loop-number-preserved
loop-number-preserved c =
    sort_added c.args.signature.now c.loop-number.copy c.add_sort.new.signature c.loop-number.number c.in-Some.name.now c.in_ok-name.name c.loop-number.invariant (sym c.in-Some.ensures) (c.in_ok-name.ensures ∙ c.as_slice.ensures) c.in_ok-add_sort.ensures
