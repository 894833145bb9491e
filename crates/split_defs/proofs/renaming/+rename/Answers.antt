use Rattle.std.proofs.Common.{rules, arith, ◌+◌, ◌^◌, length}
use Rattle.fof_terms.specs.Sorts.{binder_depth}
use Rattle.fof_terms.proofs.SortsFacts.{binder_depth_equations}
use Rattle.fof_terms.specs.declared.form.Form.TheViews.{the_lemmas}
use Rattle.split_defs.specs.code.Renaming.{speaks}
use Rattle.split_defs.proofs.RenamingFacts.{speaks_equations}
use Rattle.split_defs.proofs.Lists.{below_sum, each_passes, left_passes, right_passes}
use Rattle.split_defs.proofs.renaming.+rename.Goals as goal

pub rename-rename_box-requires : goal.rename-rename_box-requires
rename-rename_box-requires t c = (search (rules, the_lemmas), (grind (arith, speaks_equations, left_passes, right_passes), grind (arith, binder_depth_equations)))

pub rename-rename_box-requires-in-Imp : goal.rename-rename_box-requires-in-Imp
rename-rename_box-requires-in-Imp t c = (search (rules, the_lemmas), (grind (arith, speaks_equations, left_passes, right_passes), grind (arith, binder_depth_equations)))

pub rename-rename_box-requires-in-Imp-2 : goal.rename-rename_box-requires-in-Imp-2
rename-rename_box-requires-in-Imp-2 t c = (search (rules, the_lemmas), (grind (arith, speaks_equations, left_passes, right_passes), grind (arith, binder_depth_equations)))

pub rename-rename_box-requires-in-Iff : goal.rename-rename_box-requires-in-Iff
rename-rename_box-requires-in-Iff t c = (search (rules, the_lemmas), (grind (arith, speaks_equations, left_passes, right_passes), grind (arith, binder_depth_equations)))

pub rename-rename_box-requires-in-Iff-2 : goal.rename-rename_box-requires-in-Iff-2
rename-rename_box-requires-in-Iff-2 t c = (search (rules, the_lemmas), (grind (arith, speaks_equations, left_passes, right_passes), grind (arith, binder_depth_equations)))

pub rename-rename_box-requires-in-All : goal.rename-rename_box-requires-in-All
rename-rename_box-requires-in-All t c = (search (rules, the_lemmas), (grind (arith, speaks_equations, left_passes, right_passes), grind (arith, binder_depth_equations)))

pub rename-rename_box-requires-in-Ex : goal.rename-rename_box-requires-in-Ex
rename-rename_box-requires-in-Ex t c = (search (rules, the_lemmas), (grind (arith, speaks_equations, left_passes, right_passes), grind (arith, binder_depth_equations)))

pub rename-rename_all-requires : goal.rename-rename_all-requires
rename-rename_all-requires t c = (search (rules, the_lemmas), (grind (arith, speaks_equations, left_passes, right_passes), grind (arith, binder_depth_equations)))

pub rename-rename_all-requires-in-Or : goal.rename-rename_all-requires-in-Or
rename-rename_all-requires-in-Or t c = (search (rules, the_lemmas), (grind (arith, speaks_equations, left_passes, right_passes), grind (arith, binder_depth_equations)))

pub rename-overflow_add-depth : goal.rename-overflow_add-depth
rename-overflow_add-depth t c = grind (arith, binder_depth_equations)

pub rename-overflow_add-depth-in-Ex : goal.rename-overflow_add-depth-in-Ex
rename-overflow_add-depth-in-Ex t c = grind (arith, binder_depth_equations)

pub rename_all-rename-requires : goal.rename_all-rename-requires
rename_all-rename-requires t c =
    let passes = each_passes (speaks c.args.names.now.keys c.args.depth) c.args.forms.now c.requires.among in
    let below = below_sum binder_depth (length c.args.names.now.keys + c.args.depth) (2 ^ 32) c.args.forms.now c.requires.room in
    (search (rules, the_lemmas), (search (rules, passes), search (rules, below)))
