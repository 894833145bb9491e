use Rattle.std.proofs.Common.{rules, arith, ◌^◌}
use Rattle.fof_terms.specs.Sorts.{binder_depth}
use Rattle.fof_terms.proofs.SortsFacts.{binder_depth_equations}
use Rattle.fof_terms.specs.declared.form.Form.TheViews.{the_lemmas}
use Rattle.split_defs.proofs.Lists.{below_sum}
use Rattle.split_defs.proofs.speaking.+form_speaks.Goals as goal

pub form_speaks-overflow_add-depth : goal.form_speaks-overflow_add-depth
form_speaks-overflow_add-depth t c = grind (arith, binder_depth_equations)

pub form_speaks-form_speaks-requires : goal.form_speaks-form_speaks-requires
form_speaks-form_speaks-requires t c = (search (rules, the_lemmas), grind (arith, binder_depth_equations))

pub form_speaks-form_speaks-requires-in-All : goal.form_speaks-form_speaks-requires-in-All
form_speaks-form_speaks-requires-in-All t c = (search (rules, the_lemmas), grind (arith, binder_depth_equations))

pub form_speaks-form_speaks-requires-in-Imp : goal.form_speaks-form_speaks-requires-in-Imp
form_speaks-form_speaks-requires-in-Imp t c = (search (rules, the_lemmas), grind (arith, binder_depth_equations))

pub form_speaks-form_speaks-requires-then-form_speaks : goal.form_speaks-form_speaks-requires-then-form_speaks
form_speaks-form_speaks-requires-then-form_speaks t c = (search (rules, the_lemmas), grind (arith, binder_depth_equations))

pub form_speaks-forms_speak-requires : goal.form_speaks-forms_speak-requires
form_speaks-forms_speak-requires t c = (search (rules, the_lemmas), grind (arith, binder_depth_equations))

pub forms_speak-form_speaks-requires : goal.forms_speak-form_speaks-requires
forms_speak-form_speaks-requires t c =
    let below = below_sum binder_depth c.args.depth (2 ^ 32) c.args.forms.now c.requires in
    (search (rules, the_lemmas), search (rules, below))
