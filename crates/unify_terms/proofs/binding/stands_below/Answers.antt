use Rattle.unify_terms.proofs.Occurring.{stands_deeper}
use Rattle.unify_terms.proofs.binding.stands_below.Goals as goal

pub returns-in-App : goal.returns-in-App
returns-in-App c = λ yes.
    stands_deeper c.args.bound.now c.args.variable c.args.term.now c.in-App.field-0 c.in-App.args c.as_slice.result.now c.in-App.is c.as_slice.ensures (c.stands_in_one.ensures.stands yes)
