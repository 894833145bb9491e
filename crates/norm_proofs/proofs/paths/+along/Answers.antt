use Rattle.std.proofs.Common.{rules, arith, refl, ap, map, ◌∙◌}
use Rattle.fof_terms.specs.declared.form.Form.TheViews.{the_lemmas}
use Rattle.clause_form.specs.ClauseView.{form_of_lit}
use Rattle.clause_form.proofs.FoundFacts.{roomy_member, roomy_body}
use Rattle.derive_kit.proofs.Built.{ok_map}
use Rattle.norm_proofs.proofs.FittingFacts.{picks_only, takes_only, enters_only, picked_place, picked_fits, entered_fits, taken_there, taken_fits_at}
use Rattle.norm_proofs.proofs.Places.{at_index}
use Rattle.norm_proofs.proofs.RoutesFacts.{along_leaf, along_pick, along_under, along_each, itself_shows, few_paths, arm_next, pick_small, under_small, each_small, each_roomy, arms_start, arm_rooms, over_here, found_here}
use Rattle.norm_proofs.proofs.paths.+along.Goals as goal

pub along-bounds-members-place : goal.along-bounds-members-place
along-bounds-members-place t c = picked_place c.args.path.now c.in-Pick.rest c.in-Pick.number c.args.form.now c.in-And.members c.as_slice-members.result.now c.in-Pick.is c.in-And.is c.as_slice-members.ensures c.requires.fits

pub along-unreachable-requires : goal.along-unreachable-requires
along-unreachable-requires t c = picks_only c.args.path.now c.in-Pick.rest c.in-Pick.number c.args.form.now c.in-Pick.is c.in_default.not-And c.requires.fits

pub along-unreachable-requires-in_default-form : goal.along-unreachable-requires-in_default-form
along-unreachable-requires-in_default-form t c = takes_only c.args.path.now c.in-Each.ways c.args.form.now c.in-Each.is c.in_default-form.not-Or c.requires.fits

pub along-unreachable-requires-in_default-form-2 : goal.along-unreachable-requires-in_default-form-2
along-unreachable-requires-in_default-form-2 t c = enters_only c.args.path.now c.in-Under.rest c.args.form.now c.in-Under.is c.in_default-form-2.not-All c.requires.fits

pub along-along-requires : goal.along-along-requires
along-along-requires t c =
    let there = picked_place c.args.path.now c.in-Pick.rest c.in-Pick.number c.args.form.now c.in-And.members c.as_slice-members.result.now c.in-Pick.is c.in-And.is c.as_slice-members.ensures c.requires.fits in (
      search (rules, the_lemmas, there),
      (
        pick_small c.args.form.now c.index-members-place.result c.in-And.members c.as_slice-members.result.now c.in-Pick.number c.in-And.is c.as_slice-members.ensures there c.index-members-place.is c.requires.size,
        (
          roomy_member c.args.form.now c.in-And.members c.as_slice-members.result.now c.in-Pick.number c.index-members-place.result c.in-And.is c.as_slice-members.ensures there c.index-members-place.is c.requires.room,
          picked_fits c.args.path.now c.in-Pick.rest c.get.result.now c.in-Pick.number c.args.form.now c.index-members-place.result c.in-And.members c.as_slice-members.result.now c.in-Pick.is c.in-And.is c.as_slice-members.ensures c.get.ensures there c.index-members-place.is c.requires.fits,
        ),
      ),
    )

pub along-along-requires-in-All : goal.along-along-requires-in-All
along-along-requires-in-All t c = (
  search (rules, the_lemmas),
  (
    under_small c.args.form.now c.in-All.sort c.in-All.body c.get-in-All.result.now c.in-All.is c.get-in-All.ensures c.requires.size,
    (
      roomy_body c.args.form.now c.in-All.sort c.in-All.body c.get-in-All.result.now c.in-All.is c.get-in-All.ensures c.requires.room,
      entered_fits c.args.path.now c.in-Under.rest c.get-in-All-2.result.now c.in-All.sort c.args.form.now c.in-All.body c.get-in-All.result.now c.in-Under.is c.in-All.is c.get-in-All.ensures c.get-in-All-2.ensures c.requires.fits,
    ),
  ),
)

pub along-returns-in_ok-copy-in-Leaf : goal.along-returns-in_ok-copy-in-Leaf
along-returns-in_ok-copy-in-Leaf t c =
    ok_map c.same.result (λ made e. along_leaf c.args.path.now c.args.form.now c.in_ok-copy-in-Leaf.field-0 made c.in-Leaf.is e c.in_ok-copy-in-Leaf.ensures) c.same.ensures

pub along-returns-in_ok-part-in-And : goal.along-returns-in_ok-part-in-And
along-returns-in_ok-part-in-And t c =
    let there = picked_place c.args.path.now c.in-Pick.rest c.in-Pick.number c.args.form.now c.in-And.members c.as_slice-members.result.now c.in-Pick.is c.in-And.is c.as_slice-members.ensures c.requires.fits in
    ok_map c.pick.result (λ made e. along_pick c.args.path.now c.in-Pick.rest c.get.result.now c.in-Pick.number c.args.form.now c.index-members-place.result c.in-And.members c.as_slice-members.result.now c.in_ok-part-in-And.part made c.in-Pick.is c.in-And.is c.as_slice-members.ensures
    (at_index c.as_slice-members.result.now c.in-Pick.number c.index-members-place.result there c.index-members-place.is) c.get.ensures e c.in_ok-part-in-And.ensures) c.pick.ensures

pub along-returns-in_ok-part-in-All : goal.along-returns-in_ok-part-in-All
along-returns-in_ok-part-in-All t c =
    ok_map c.below.result (λ made e. along_under c.args.path.now c.in-Under.rest c.get-in-All-2.result.now c.in-All.sort c.args.form.now c.in-All.body c.get-in-All.result.now c.get-in-All-3.result.now c.in_ok-part-in-All.part made c.in-Under.is c.in-All.is c.get-in-All.ensures c.get-in-All-3.ensures c.get-in-All-2.ensures e c.in_ok-part-in-All.ensures) c.below.ensures

pub arms-loop-number-init : goal.arms-loop-number-init
arms-loop-number-init t c = arms_start c.args.whole.now c.args.forms.now c.args.clauses.now c.new-made.result c.requires.whole c.new-made.ensures

pub arms-bounds-paths-number : goal.arms-bounds-paths-number
arms-bounds-paths-number t c = omega (arith, (few_paths c.args.paths.now c.args.forms.now c.args.clauses.now c.requires.found).0, c.loop-number-test.true)

pub arms-bounds-clauses-number : goal.arms-bounds-clauses-number
arms-bounds-clauses-number t c = omega (arith, (few_paths c.args.paths.now c.args.forms.now c.args.clauses.now c.requires.found).1, c.loop-number-test.true)

pub arms-along-requires : goal.arms-along-requires
arms-along-requires t c = (
  search (rules, the_lemmas),
  (
    each_small c.args.forms.now c.loop-number.number c.index-forms-number.result c.loop-number-test.true c.index-forms-number.is c.requires.size,
    (
      each_roomy c.args.forms.now c.loop-number.number c.index-forms-number.result c.loop-number-test.true c.index-forms-number.is c.requires.room,
      taken_fits_at c.args.paths.now c.args.forms.now c.args.clauses.now c.loop-number.number c.index-paths-number.result c.index-forms-number.result c.requires.found c.loop-number-test.true c.index-paths-number.is c.index-forms-number.is,
    ),
  ),
)

pub arms-overflow_sub-after-in-loop-number : goal.arms-overflow_sub-after-in-loop-number
arms-overflow_sub-after-in-loop-number t c =
    let fits = arm_rooms c.args.paths.now c.args.forms.now c.args.clauses.now c.args.whole.now c.loop-number.number c.loop-number.before c.loop-number.start c.loop-number.made c.index-clauses-number.result c.requires.size c.requires.found c.requires.whole c.loop-number-test.true c.index-clauses-number.is c.loop-number.invariant in
    omega (arith, fits.0, c.len.ensures, c.len-in-loop-number.ensures)

pub arms-widen-requires-clause-variables : goal.arms-widen-requires-clause-variables
arms-widen-requires-clause-variables t c =
    let fits = arm_rooms c.args.paths.now c.args.forms.now c.args.clauses.now c.args.whole.now c.loop-number.number c.loop-number.before c.loop-number.start c.loop-number.made c.index-clauses-number.result c.requires.size c.requires.found c.requires.whole c.loop-number-test.true c.index-clauses-number.is c.loop-number.invariant in
    omega (arith, fits.0, fits.2, c.len.ensures, c.len-in-loop-number.ensures)

pub arms-widen-requires-clause-literals : goal.arms-widen-requires-clause-literals
arms-widen-requires-clause-literals t c =
    let fits = arm_rooms c.args.paths.now c.args.forms.now c.args.clauses.now c.args.whole.now c.loop-number.number c.loop-number.before c.loop-number.start c.loop-number.made c.index-clauses-number.result c.requires.size c.requires.found c.requires.whole c.loop-number-test.true c.index-clauses-number.is c.loop-number.invariant in
    omega (arith, fits.1, fits.2)

pub arms-overflow_add-before : goal.arms-overflow_add-before
arms-overflow_add-before t c =
    let fits = arm_rooms c.args.paths.now c.args.forms.now c.args.clauses.now c.args.whole.now c.loop-number.number c.loop-number.before c.loop-number.start c.loop-number.made c.index-clauses-number.result c.requires.size c.requires.found c.requires.whole c.loop-number-test.true c.index-clauses-number.is c.loop-number.invariant in
    omega (arith, fits.0, fits.2, c.len-before.ensures)

pub arms-overflow_add-start : goal.arms-overflow_add-start
arms-overflow_add-start t c =
    let fits = arm_rooms c.args.paths.now c.args.forms.now c.args.clauses.now c.args.whole.now c.loop-number.number c.loop-number.before c.loop-number.start c.loop-number.made c.index-clauses-number.result c.requires.size c.requires.found c.requires.whole c.loop-number-test.true c.index-clauses-number.is c.loop-number.invariant in
    omega (arith, fits.1, fits.2, c.len-start.ensures)

pub arms-loop-number-preserved : goal.arms-loop-number-preserved
arms-loop-number-preserved t c =
    rw (c.in_ok-push.ensures.ok, c.into_inner.ensures, c.len-before.ensures, c.len-start.ensures)
    (arm_next c.args.paths.now c.args.forms.now c.as_slice-in-loop-number.result.now c.args.clauses.now c.args.whole.now c.loop-number.number c.loop-number.before c.loop-number.start _ c.loop-number.made c.index-paths-number.result c.index-forms-number.result c.index-clauses-number.result c.in_ok-part.part c.in_ok-arm.arm
    c.requires.found c.loop-number-test.true c.index-paths-number.is c.index-forms-number.is c.index-clauses-number.is (c.as_slice-in-loop-number.ensures ∙ c.in_ok-members.ensures ∙ ap (map form_of_lit) c.as_slice.ensures) (rw (c.len.ensures, c.len-in-loop-number.ensures) refl) c.in_ok-part.ensures c.in_ok-arm.ensures c.loop-number.invariant)

pub each-unreachable-requires : goal.each-unreachable-requires
each-unreachable-requires t c = taken_there c.args.paths.now c.args.forms.now c.in_ok-clauses.field-0 c.in_ok-clauses.ensures c.in_default.not-Some c.requires.fits

pub each-all_beside-requires : goal.each-all_beside-requires
each-all_beside-requires t c = over_here c.args.paths.now c.args.forms.now c.in_ok-clauses.field-0 c.in-Some.clauses c.as_slice.result.now c.in_ok-clauses.ensures c.in-Some.is c.as_slice.ensures c.requires.room

pub each-returns-then-branch : goal.each-returns-then-branch
each-returns-then-branch t c =
    ok_map c.same.result (λ made e. along_each c.args.paths.now c.args.forms.now c.in-Some.clauses c.in_ok-whole.whole made (found_here c.args.paths.now c.args.forms.now c.in_ok-clauses.field-0 c.in-Some.clauses c.in_ok-clauses.ensures c.in-Some.is) (rw c.as_slice.ensures at c.in_ok-whole.ensures)
    (λ suits. itself_shows c.args.forms.now c.in_ok-whole.whole c.in_ok-node.field-0 made (c.in_ok-is_closed.ensures c.if-branch.true) e c.in_ok-node.ensures)) c.same.ensures

pub each-returns : goal.each-returns
each-returns t c =
    ok_map c.gathered.result (λ made f. along_each c.args.paths.now c.args.forms.now c.in-Some.clauses c.in_ok-whole.whole made (found_here c.args.paths.now c.args.forms.now c.in_ok-clauses.field-0 c.in-Some.clauses c.in_ok-clauses.ensures c.in-Some.is) (rw c.as_slice.ensures at c.in_ok-whole.ensures)
    (λ suits. f suits c.in_ok-arms.ensures)) c.gathered.ensures
