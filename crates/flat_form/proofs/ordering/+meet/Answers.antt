use Rattle.std.proofs.Common.{rules, arith, ◌^◌}
use Rattle.fof_terms.specs.Sorts.{binder_depth}
use Rattle.fof_terms.proofs.Lists.{below_sum}
use Rattle.fof_terms.proofs.SortsFacts.{binder_depth_equations}
use Rattle.fof_terms.specs.declared.form.Form.TheViews.{the_lemmas}
use Rattle.flat_form.specs.Variables.{variables_of, variables_of_term}
use Rattle.flat_form.proofs.Order.{on_ok, met_both, met_more}
use Rattle.flat_form.proofs.VariablesFacts.{variables_of_equations}
use Rattle.flat_form.proofs.ordering.+meet.Goals as goal

pub meet-meet-requires : goal.meet-meet-requires
meet-meet-requires t c = (search (rules, the_lemmas), grind (arith, binder_depth_equations))

pub meet-meet-requires-in-All : goal.meet-meet-requires-in-All
meet-meet-requires-in-All t c = (search (rules, the_lemmas), grind (arith, binder_depth_equations))

pub meet-meet-requires-in-Imp : goal.meet-meet-requires-in-Imp
meet-meet-requires-in-Imp t c = (search (rules, the_lemmas), grind (arith, binder_depth_equations))

pub meet-meet-requires-in-Imp-2 : goal.meet-meet-requires-in-Imp-2
meet-meet-requires-in-Imp-2 t c = (search (rules, the_lemmas), grind (arith, binder_depth_equations))

pub meet-meet_all-requires : goal.meet-meet_all-requires
meet-meet_all-requires t c = (search (rules, the_lemmas), grind (arith, binder_depth_equations))

pub meet-overflow_add-depth : goal.meet-overflow_add-depth
meet-overflow_add-depth t c = grind (arith, binder_depth_equations)

pub meet-returns-in_ok-meet_term-in-Eq : goal.meet-returns-in_ok-meet_term-in-Eq
meet-returns-in_ok-meet_term-in-Eq t c =
    on_ok c.meet_term-in-Eq.result
    (λ g. met_both c.args.count c.args.met.now.keys (variables_of_term c.args.depth c.in-Eq.left) (variables_of_term c.args.depth c.in-Eq.right) (variables_of c.args.depth c.args.form.now) c.meet_term.new.met.keys c.meet_term-in-Eq.new.met.keys
    (grind (arith, variables_of_equations)) c.in_ok-meet_term-in-Eq.ensures g)
    c.meet_term-in-Eq.ensures

pub meet-returns-in_ok-meet-in-Imp : goal.meet-returns-in_ok-meet-in-Imp
meet-returns-in_ok-meet-in-Imp t c =
    on_ok c.meet-in-Imp-2.result
    (λ g. met_both c.args.count c.args.met.now.keys (variables_of c.args.depth c.get-in-Imp.result.now) (variables_of c.args.depth c.get-in-Imp-2.result.now) (variables_of c.args.depth c.args.form.now) c.meet-in-Imp.new.met.keys c.meet-in-Imp-2.new.met.keys
    (grind (arith, variables_of_equations)) c.in_ok-meet-in-Imp.ensures g)
    c.meet-in-Imp-2.ensures

pub meet_all-meet-requires : goal.meet_all-meet-requires
meet_all-meet-requires t c =
    let below = below_sum binder_depth c.args.depth (2 ^ 32) c.args.forms.now c.requires in
    (search (rules, the_lemmas), search (rules, below))

pub meet_all-loop-form-preserved : goal.meet_all-loop-form-preserved
meet_all-loop-form-preserved t c =
    met_more c.args.count (variables_of c.args.depth) c.args.forms.now c.loop-form.form-index c.form-item.result c.args.met.now.keys c.loop-form.met.keys c.meet.new.met.keys c.loop-form-test.true c.form-item.is c.loop-form.invariant
    c.in_ok-meet.ensures
