use Rattle.std.proofs.Common.{rules, arith, ◌^◌, append_assoc, sym, ap, ◌∙◌}
use Rattle.fof_terms.specs.Sorts.{binder_depth}
use Rattle.fof_terms.proofs.SortsFacts.{binder_depth_equations}
use Rattle.fof_terms.specs.declared.form.Form.TheViews.{the_lemmas}
use Rattle.skolem_fresh.proofs.Below.{below_sum}
use Rattle.skolem_fresh.proofs.Pushed.{two_leaves, imp_leaves, iff_leaves}
use Rattle.skolem_fresh.proofs.leaves.+push_leaves.Goals as goal

pub push_leaves-push_leaves-requires : goal.push_leaves-push_leaves-requires
push_leaves-push_leaves-requires t c = (search (rules, the_lemmas), grind (arith, binder_depth_equations))

pub push_leaves-push_leaves-requires-in-All : goal.push_leaves-push_leaves-requires-in-All
push_leaves-push_leaves-requires-in-All t c = (search (rules, the_lemmas), grind (arith, binder_depth_equations))

pub push_leaves-push_leaves-requires-in-Imp : goal.push_leaves-push_leaves-requires-in-Imp
push_leaves-push_leaves-requires-in-Imp t c = (search (rules, the_lemmas), grind (arith, binder_depth_equations))

pub push_leaves-push_leaves-requires-in-Imp-2 : goal.push_leaves-push_leaves-requires-in-Imp-2
push_leaves-push_leaves-requires-in-Imp-2 t c = (search (rules, the_lemmas), grind (arith, binder_depth_equations))

pub push_leaves-push_all_leaves-requires : goal.push_leaves-push_all_leaves-requires
push_leaves-push_all_leaves-requires t c = (search (rules, the_lemmas), grind (arith, binder_depth_equations))

pub push_leaves-overflow_add-depth : goal.push_leaves-overflow_add-depth
push_leaves-overflow_add-depth t c = grind (arith, binder_depth_equations)

pub push_all_leaves-push_leaves-requires : goal.push_all_leaves-push_leaves-requires
push_all_leaves-push_leaves-requires t c =
    let below = below_sum binder_depth c.args.depth (2 ^ 32) c.args.forms.now c.requires in
    (search (rules, the_lemmas), search (rules, below))

pub push_leaves-returns-in_ok-push_term-in-Eq-2 : goal.push_leaves-returns-in_ok-push_term-in-Eq-2
push_leaves-returns-in_ok-push_term-in-Eq-2 t c = two_leaves c.args.depth c.in-Eq.left c.in-Eq.right c.args.form.now c.args.leaves.now c.push_term.new.leaves c.push_term-in-Eq.new.leaves c.in-Eq.is c.in_ok-push_term-in-Eq.ensures c.in_ok-push_term-in-Eq-2.ensures

pub push_leaves-push_leaves-requires-in-Iff : goal.push_leaves-push_leaves-requires-in-Iff
push_leaves-push_leaves-requires-in-Iff t c = (search (rules, the_lemmas), grind (arith, binder_depth_equations))

pub push_leaves-push_leaves-requires-in-Iff-2 : goal.push_leaves-push_leaves-requires-in-Iff-2
push_leaves-push_leaves-requires-in-Iff-2 t c = (search (rules, the_lemmas), grind (arith, binder_depth_equations))

pub push_leaves-returns-in_ok-push_leaves-in-Imp-2 : goal.push_leaves-returns-in_ok-push_leaves-in-Imp-2
push_leaves-returns-in_ok-push_leaves-in-Imp-2 t c =
    imp_leaves c.args.depth c.in-Imp.left c.in-Imp.right c.get-in-Imp.result.now c.get-in-Imp-2.result.now c.args.form.now c.args.leaves.now c.push_leaves-in-Imp.new.leaves c.push_leaves-in-Imp-2.new.leaves c.in-Imp.is c.get-in-Imp.ensures c.get-in-Imp-2.ensures c.in_ok-push_leaves-in-Imp.ensures c.in_ok-push_leaves-in-Imp-2.ensures

pub push_leaves-returns-in_ok-push_leaves-in-Iff-2 : goal.push_leaves-returns-in_ok-push_leaves-in-Iff-2
push_leaves-returns-in_ok-push_leaves-in-Iff-2 t c =
    iff_leaves c.args.depth c.in-Iff.left c.in-Iff.right c.get-in-Iff.result.now c.get-in-Iff-2.result.now c.args.form.now c.args.leaves.now c.push_leaves-in-Iff.new.leaves c.push_leaves-in-Iff-2.new.leaves c.in-Iff.is c.get-in-Iff.ensures c.get-in-Iff-2.ensures c.in_ok-push_leaves-in-Iff.ensures c.in_ok-push_leaves-in-Iff-2.ensures
