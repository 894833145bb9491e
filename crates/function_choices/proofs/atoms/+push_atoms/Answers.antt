use Rattle.std.proofs.Common.{rules, arith, ◌^◌}
use Rattle.fof_terms.specs.Sorts.{binder_depth}
use Rattle.fof_terms.proofs.SortsFacts.{binder_depth_equations}
use Rattle.fof_terms.specs.declared.form.Form.TheViews.{the_lemmas}
use Rattle.fof_terms.proofs.Lists.{below_sum}
use Rattle.function_choices.proofs.AtomsFacts.{imp_atoms, iff_atoms}
use Rattle.function_choices.proofs.atoms.+push_atoms.Goals as goal

pub push_atoms-push_atoms-requires : goal.push_atoms-push_atoms-requires
push_atoms-push_atoms-requires t c = (search (rules, the_lemmas), grind (arith, binder_depth_equations))

pub push_atoms-push_atoms-requires-in-All : goal.push_atoms-push_atoms-requires-in-All
push_atoms-push_atoms-requires-in-All t c = (search (rules, the_lemmas), grind (arith, binder_depth_equations))

pub push_atoms-push_atoms-requires-in-Imp : goal.push_atoms-push_atoms-requires-in-Imp
push_atoms-push_atoms-requires-in-Imp t c = (search (rules, the_lemmas), grind (arith, binder_depth_equations))

pub push_atoms-push_atoms-requires-in-Imp-2 : goal.push_atoms-push_atoms-requires-in-Imp-2
push_atoms-push_atoms-requires-in-Imp-2 t c = (search (rules, the_lemmas), grind (arith, binder_depth_equations))

pub push_atoms-push_atoms-requires-in-Iff : goal.push_atoms-push_atoms-requires-in-Iff
push_atoms-push_atoms-requires-in-Iff t c = (search (rules, the_lemmas), grind (arith, binder_depth_equations))

pub push_atoms-push_atoms-requires-in-Iff-2 : goal.push_atoms-push_atoms-requires-in-Iff-2
push_atoms-push_atoms-requires-in-Iff-2 t c = (search (rules, the_lemmas), grind (arith, binder_depth_equations))

pub push_atoms-push_atoms_of_all-requires : goal.push_atoms-push_atoms_of_all-requires
push_atoms-push_atoms_of_all-requires t c = (search (rules, the_lemmas), grind (arith, binder_depth_equations))

pub push_atoms-overflow_add-depth : goal.push_atoms-overflow_add-depth
push_atoms-overflow_add-depth t c = grind (arith, binder_depth_equations)

pub push_atoms_of_all-push_atoms-requires : goal.push_atoms_of_all-push_atoms-requires
push_atoms_of_all-push_atoms-requires t c =
    let below = below_sum binder_depth c.args.depth (2 ^ 32) c.args.forms.now c.requires in
    (search (rules, the_lemmas), search (rules, below))

pub push_atoms-returns-in_ok-push_atoms-in-Imp-2 : goal.push_atoms-returns-in_ok-push_atoms-in-Imp-2
push_atoms-returns-in_ok-push_atoms-in-Imp-2 t c =
    imp_atoms c.args.depth c.in-Imp.left c.in-Imp.right c.get-in-Imp.result.now c.get-in-Imp-2.result.now c.args.form.now c.args.atoms.now c.push_atoms-in-Imp.new.atoms c.push_atoms-in-Imp-2.new.atoms c.in-Imp.is c.get-in-Imp.ensures c.get-in-Imp-2.ensures c.in_ok-push_atoms-in-Imp.ensures c.in_ok-push_atoms-in-Imp-2.ensures

pub push_atoms-returns-in_ok-push_atoms-in-Iff-2 : goal.push_atoms-returns-in_ok-push_atoms-in-Iff-2
push_atoms-returns-in_ok-push_atoms-in-Iff-2 t c =
    iff_atoms c.args.depth c.in-Iff.left c.in-Iff.right c.get-in-Iff.result.now c.get-in-Iff-2.result.now c.args.form.now c.args.atoms.now c.push_atoms-in-Iff.new.atoms c.push_atoms-in-Iff-2.new.atoms c.in-Iff.is c.get-in-Iff.ensures c.get-in-Iff-2.ensures c.in_ok-push_atoms-in-Iff.ensures c.in_ok-push_atoms-in-Iff-2.ensures
