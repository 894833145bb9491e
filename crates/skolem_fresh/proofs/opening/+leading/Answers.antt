use Rattle.std.proofs.Common.{rules, arith, ◌^◌}
use Rattle.fof_terms.specs.Sorts.{binder_depth}
use Rattle.fof_terms.proofs.SortsFacts.{binder_depth_equations}
use Rattle.fof_terms.specs.declared.form.Form.TheViews.{the_lemmas}
use Rattle.skolem_fresh.proofs.opening.+leading.Goals as goal

pub leading-requires : goal.leading-requires
leading-requires t c = (search (rules, the_lemmas), grind (arith, binder_depth_equations))

pub overflow_add-result : goal.overflow_add-result
overflow_add-result t c = grind (arith, binder_depth_equations)

pub returns-in-Ex-clause-within : goal.returns-in-Ex-clause-within
returns-in-Ex-clause-within t c = grind (arith, binder_depth_equations)
