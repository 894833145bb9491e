use Rattle.std.proofs.Common.{◌∙◌, rules, length}
use Rattle.fof_terms.specs.declared.form.Form.TheViews.{the_lemmas}
use Rattle.substitution_search.proofs.Opened.{opened_more, leaf_opened, under_opened}
use Rattle.substitution_search.proofs.Room.{and_room, or_room, under_room, member_room}
use Rattle.substitution_search.proofs.opening.+open.Goals as goal

pub open-returns-in_ok-goal-in-All : goal.open-returns-in_ok-goal-in-All
open-returns-in_ok-goal-in-All t c =
    under_opened c.args.line.now c.args.form.now c.in-All.body c.get.result.now c.in-All.sort c.len.result c.args.names.now c.args.sorts.now c.push.new.self c.push-in-All.new.self c.open.new.names c.open.new.sorts c.pop.new.self c.in_ok-goal-in-All.goal c.pop.result
    c.in-All.is c.get.ensures c.len.ensures c.in_ok-push-in-All.ensures.ok c.in_ok-push-in-All-2.ensures.ok c.in_ok-goal-in-All.ensures c.pop.ensures

pub open-returns-in-Atom : goal.open-returns-in-Atom
open-returns-in-Atom t c = leaf_opened c.args.line.now c.args.form.now c.args.names.now c.args.sorts.now c.open_leaf.result c.in-Atom.is (rw c.as_slice-in-Atom.ensures at c.open_leaf.ensures)

pub open_all-loop-form-preserved : goal.open_all-loop-form-preserved
open_all-loop-form-preserved t c =
    opened_more c.args.line.now c.args.forms.now c.loop-form.form-index c.args.sorts.now c.args.names.now c.loop-form.goals c.loop-form.sorts c.loop-form.names c.form-item.result c.in_ok-open.field-0 c.open.new.sorts c.open.new.names c.push.new.self
    c.loop-form-test.true c.form-item.is c.loop-form.invariant c.in_ok-open.ensures c.in_ok-push.ensures.ok

pub open-open_all-requires : goal.open-open_all-requires
open-open_all-requires t c = (search (rules, the_lemmas), and_room c.args.line.now c.args.form.now c.in-And.members c.as_slice.result.now (length c.args.sorts.now) c.in-And.is c.as_slice.ensures c.requires.few)

pub open-open_all-requires-in-Or : goal.open-open_all-requires-in-Or
open-open_all-requires-in-Or t c = (search (rules, the_lemmas), or_room c.args.line.now c.args.form.now c.in-Or.members c.as_slice-in-Or.result.now (length c.args.sorts.now) c.in-Or.is c.as_slice-in-Or.ensures c.requires.few)

pub open-open-requires : goal.open-open-requires
open-open-requires t c = (search (rules, the_lemmas), under_room c.args.line.now c.args.form.now c.in-All.body c.get.result.now c.in-All.sort c.args.sorts.now c.push-in-All.new.self c.in-All.is c.get.ensures c.in_ok-push-in-All-2.ensures.ok c.requires.few)

pub open_all-open-requires : goal.open_all-open-requires
open_all-open-requires t c = (search (rules, the_lemmas), member_room c.args.line.now c.args.forms.now c.loop-form.form-index c.args.sorts.now c.args.names.now c.loop-form.goals c.loop-form.sorts c.loop-form.names c.form-item.result c.loop-form-test.true c.form-item.is c.loop-form.invariant c.requires.few)
