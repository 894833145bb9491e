use Rattle.std.proofs.Common.{rules, arith, ◌^◌}
use Rattle.fof_terms.specs.Sorts.{binder_depth}
use Rattle.fof_terms.proofs.SortsFacts.{binder_depth_equations}
use Rattle.fof_terms.specs.declared.form.Form.TheViews.{the_lemmas}
use Rattle.skolem_fresh.proofs.Below.{below_sum}
use Rattle.skolem_fresh.proofs.only.+only_has.Goals as goal

pub only_has-only_has-requires : goal.only_has-only_has-requires
only_has-only_has-requires t c = (search (rules, the_lemmas), grind (arith, binder_depth_equations))

pub only_has-only_has-requires-in-All : goal.only_has-only_has-requires-in-All
only_has-only_has-requires-in-All t c = (search (rules, the_lemmas), grind (arith, binder_depth_equations))

pub only_has-only_has-requires-in-Imp : goal.only_has-only_has-requires-in-Imp
only_has-only_has-requires-in-Imp t c = (search (rules, the_lemmas), grind (arith, binder_depth_equations))

pub only_has-only_has-requires-then-only_has : goal.only_has-only_has-requires-then-only_has
only_has-only_has-requires-then-only_has t c = (search (rules, the_lemmas), grind (arith, binder_depth_equations))

pub only_has-only_have-requires : goal.only_has-only_have-requires
only_has-only_have-requires t c = (search (rules, the_lemmas), grind (arith, binder_depth_equations))

pub only_has-overflow_add-depth : goal.only_has-overflow_add-depth
only_has-overflow_add-depth t c = grind (arith, binder_depth_equations)

pub only_have-only_has-requires : goal.only_have-only_has-requires
only_have-only_has-requires t c =
    let below = below_sum binder_depth c.args.depth (2 ^ 32) c.args.forms.now c.requires in
    (search (rules, the_lemmas), search (rules, below))
