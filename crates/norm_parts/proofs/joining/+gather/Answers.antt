use Rattle.std.proofs.Common.{rules, arith, refl, ap, subst, length, length-drop, ◌+◌, ◌≤◌, List}
use Rattle.fof_terms.specs.declared.form.Form.{Form}
use Rattle.fof_terms.specs.declared.form.Form.TheViews.{the_lemmas}
use Rattle.norm_parts.specs.code.Gathering.{IsGathered}
use Rattle.norm_parts.proofs.PartsFacts.{only_part}
use Rattle.norm_parts.proofs.Gathered.{and_within, all_within, next_within, gathered_and, gathered_all, gathered_leaf, gathered_none, gathered_next, gathered_last}
use Rattle.norm_parts.proofs.joining.+gather.Goals as goal

pub gather-gather_all-requires : goal.gather-gather_all-requires
gather-gather_all-requires t c = (search (rules, the_lemmas), and_within c.args.form.now c.in-And.members c.as_slice.result.now c.args.rest.now c.in-And.is c.as_slice.ensures c.requires)

pub gather-gather-requires : goal.gather-gather-requires
gather-gather-requires t c = (search (rules, the_lemmas), all_within c.args.form.now c.in-All.sort c.in-All.body c.get-body.result.now c.args.rest.now c.in-All.is c.get-body.ensures c.requires)

pub gather-returns-in_ok-part-in-And : goal.gather-returns-in_ok-part-in-And
gather-returns-in_ok-part-in-And t c =
    gathered_and c.args.form.now c.in-And.members c.as_slice.result.now c.args.depth c.args.rest.now c.in_ok-made-in-And.made.proofs c.in_ok-part-in-And.part c.in_ok-made-in-And.made.count c.in-And.is c.as_slice.ensures c.in_ok-part-in-And.ensures c.in_ok-made-in-And.ensures

pub gather-returns-in_ok-part-in-All : goal.gather-returns-in_ok-part-in-All
gather-returns-in_ok-part-in-All t c =
    gathered_all c.args.form.now c.in-All.sort c.in-All.body c.get-body.result.now c.args.depth c.in_ok-inner-in-All.inner c.args.rest.now c.front-own.result.now c.in_ok-made-in-All.made.part c.in_ok-opened-in-All.opened c.in_ok-part-in-All.part c.in_ok-made-in-All.made.count c.in-All.is c.get-body.ensures
    c.in_ok-inner-in-All.ensures c.front-own.ensures c.in_ok-part-in-All.ensures c.in_ok-made-in-All.ensures c.in_ok-opened-in-All.ensures

pub gather-returns-in_ok-part-in-Atom : goal.gather-returns-in_ok-part-in-Atom
gather-returns-in_ok-part-in-Atom t c = gathered_leaf c.args.form.now c.args.depth c.args.rest.now c.in_ok-part-in-Atom.part (only_part c.args.form.now c.in-Atom.is) c.in_ok-part-in-Atom.ensures

pub gather_all-loop-form-init : goal.gather_all-loop-form-init
gather_all-loop-form-init t c = gathered_none c.args.depth c.args.rest.now c.new-proofs.result c.new-proofs.ensures

pub gather-front-own-requires : goal.gather-front-own-requires
gather-front-own-requires t c =
    let le = all_within c.args.form.now c.in-All.sort c.in-All.body c.get-body.result.now c.args.rest.now c.in-All.is c.get-body.ensures c.requires in
    omega (arith, le, c.in_ok-made-in-All.ensures.counted)

pub gather_all-behind-left-requires : goal.gather_all-behind-left-requires
gather_all-behind-left-requires t c =
    let le = next_within c.args.forms.now c.loop-form.form-index c.form-item.result c.args.depth c.args.rest.now c.loop-form.proofs c.loop-form.first c.loop-form-test.true c.form-item.is c.loop-form.invariant c.requires in
    omega (arith, le)

pub gather_all-gather-requires : goal.gather_all-gather-requires
gather_all-gather-requires t c =
    let le = next_within c.args.forms.now c.loop-form.form-index c.form-item.result c.args.depth c.args.rest.now c.loop-form.proofs c.loop-form.first c.loop-form-test.true c.form-item.is c.loop-form.invariant c.requires in
    (search (rules, the_lemmas), omega (arith, le, ap length c.behind-left.ensures, length-drop c.loop-form.first c.args.rest.now))

pub gather_all-member-requires-clause-made : goal.gather_all-member-requires-clause-made
gather_all-member-requires-clause-made t c =
    subst (λ (xs : List Form). IsGathered c.form-item.result c.args.depth xs c.in_ok-made.made.part c.in_ok-made.made.count) c.behind-left.ensures c.in_ok-made.ensures

pub gather_all-overflow_add-first : goal.gather_all-overflow_add-first
gather_all-overflow_add-first t c =
    let le = next_within c.args.forms.now c.loop-form.form-index c.form-item.result c.args.depth c.args.rest.now c.loop-form.proofs c.loop-form.first c.loop-form-test.true c.form-item.is c.loop-form.invariant c.requires in
    let within : c.loop-form.first + c.in_ok-made.made.count ≤ length c.args.rest.now = omega (arith, le, c.in_ok-made.ensures.counted) in
    omega (arith, within)

pub gather_all-member-requires-clause-within : goal.gather_all-member-requires-clause-within
gather_all-member-requires-clause-within t c =
    next_within c.args.forms.now c.loop-form.form-index c.form-item.result c.args.depth c.args.rest.now c.loop-form.proofs c.loop-form.first c.loop-form-test.true c.form-item.is c.loop-form.invariant c.requires

pub gather_all-loop-form-preserved : goal.gather_all-loop-form-preserved
gather_all-loop-form-preserved t c =
    gathered_next c.args.forms.now c.loop-form.form-index c.form-item.result c.args.depth c.args.rest.now c.loop-form.first c.in_ok-made.made.count _ c.loop-form.proofs c.push.new.self c.in_ok-one.one c.into_inner.result c.loop-form-test.true c.form-item.is c.loop-form.invariant
    c.in_ok-one.ensures c.in_ok-made.ensures.counted refl c.into_inner.ensures c.in_ok-push.ensures.ok

pub gather_all-returns : goal.gather_all-returns
gather_all-returns t c = gathered_last c.args.forms.now c.loop-form.form-index c.args.depth c.args.rest.now c.loop-form.proofs c.loop-form.first c.loop-form-test.false c.loop-form.invariant
