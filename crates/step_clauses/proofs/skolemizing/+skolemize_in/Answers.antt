use Rattle.std.proofs.Common.{rules, arith, refl, ◌^◌}
use Rattle.fof_terms.specs.declared.form.Form.TheViews.{the_lemmas}
use Rattle.step_clauses.specs.code.Bound.{count_in, terms_in}
use Rattle.step_clauses.proofs.SkolemizingFacts.{count_in-Universal, count_in-Existential, next_within, depth_within, turn_more, count_more, not_room, and_room, or_room, imp_room, iff_room, all_room, ex_room, imp_made, iff_made}
use Rattle.step_clauses.proofs.skolemizing.+skolemize_in.Goals as goal

pub skolemize_all-skolemize_in-requires : goal.skolemize_all-skolemize_in-requires
skolemize_all-skolemize_in-requires t c = (
  search (rules, the_lemmas),
  (
    next_within c.args.forms.now c.loop-form.form-index c.form-item.result (2 ^ 32) c.args.next.now c.loop-form.next c.loop-form-test.true c.form-item.is c.requires.numbers c.loop-form.invariant.0,
    depth_within c.args.forms.now c.loop-form.form-index c.form-item.result (count_in c.args.bound.now) (2 ^ 32) c.loop-form-test.true c.form-item.is c.requires.depth,
  ),
)

pub skolemize_in-skolemize_box-requires : goal.skolemize_in-skolemize_box-requires
skolemize_in-skolemize_box-requires t c = (search (rules, the_lemmas), not_room c.args.form.now c.args.next.now (count_in c.args.bound.now) (2 ^ 32) c.requires.numbers c.requires.depth c.get.result.now c.in-Not.body c.in-Not.is c.get.ensures)

pub skolemize_in-skolemize_all-requires : goal.skolemize_in-skolemize_all-requires
skolemize_in-skolemize_all-requires t c = (search (rules, the_lemmas), and_room c.args.form.now c.args.next.now (count_in c.args.bound.now) (2 ^ 32) c.requires.numbers c.requires.depth c.as_slice-in-And.result.now c.in-And.members c.in-And.is c.as_slice-in-And.ensures)

pub skolemize_in-skolemize_all-requires-in-Or : goal.skolemize_in-skolemize_all-requires-in-Or
skolemize_in-skolemize_all-requires-in-Or t c = (search (rules, the_lemmas), or_room c.args.form.now c.args.next.now (count_in c.args.bound.now) (2 ^ 32) c.requires.numbers c.requires.depth c.as_slice-in-Or.result.now c.in-Or.members c.in-Or.is c.as_slice-in-Or.ensures)

pub skolemize_in-skolemize_box-requires-in-Imp : goal.skolemize_in-skolemize_box-requires-in-Imp
skolemize_in-skolemize_box-requires-in-Imp t c = (search (rules, the_lemmas), (imp_room c.args.form.now c.args.next.now (count_in c.args.bound.now) (2 ^ 32) c.requires.numbers c.requires.depth c.get-in-Imp.result.now c.in-Imp.right c.in-Imp.left c.in-Imp.right c.in-Imp.is c.get-in-Imp.ensures refl).0)

pub skolemize_in-skolemize_box-requires-in-Imp-2 : goal.skolemize_in-skolemize_box-requires-in-Imp-2
skolemize_in-skolemize_box-requires-in-Imp-2 t c = (
  search (rules, the_lemmas),
  (imp_room c.args.form.now c.args.next.now (count_in c.args.bound.now) (2 ^ 32) c.requires.numbers c.requires.depth c.get-in-Imp.result.now c.get-in-Imp-2.result.now c.in-Imp.left c.in-Imp.right c.in-Imp.is c.get-in-Imp.ensures c.get-in-Imp-2.ensures).1 c.skolemize_box-in-Imp.new.next c.in_ok-first-in-Imp.ensures.next,
)

pub skolemize_in-skolemize_box-requires-in-Iff : goal.skolemize_in-skolemize_box-requires-in-Iff
skolemize_in-skolemize_box-requires-in-Iff t c = (search (rules, the_lemmas), (iff_room c.args.form.now c.args.next.now (count_in c.args.bound.now) (2 ^ 32) c.requires.numbers c.requires.depth c.get-in-Iff.result.now c.in-Iff.right c.in-Iff.left c.in-Iff.right c.in-Iff.is c.get-in-Iff.ensures refl).0)

pub skolemize_in-skolemize_box-requires-in-Iff-2 : goal.skolemize_in-skolemize_box-requires-in-Iff-2
skolemize_in-skolemize_box-requires-in-Iff-2 t c = (
  search (rules, the_lemmas),
  (iff_room c.args.form.now c.args.next.now (count_in c.args.bound.now) (2 ^ 32) c.requires.numbers c.requires.depth c.get-in-Iff.result.now c.get-in-Iff-2.result.now c.in-Iff.left c.in-Iff.right c.in-Iff.is c.get-in-Iff.ensures c.get-in-Iff-2.ensures).1 c.skolemize_box-in-Iff.new.next c.in_ok-first-in-Iff.ensures.next,
)

pub skolemize_in-skolemize_box-requires-in-All : goal.skolemize_in-skolemize_box-requires-in-All
skolemize_in-skolemize_box-requires-in-All t c = (search (rules, the_lemmas), all_room c.args.form.now c.args.next.now (count_in c.args.bound.now) (2 ^ 32) c.requires.numbers c.requires.depth c.in-All.sort c.get-in-All.result.now c.in-All.body _ c.in-All.is c.get-in-All.ensures (count_in-Universal c.args.bound))

pub skolemize_in-skolemize_in-requires : goal.skolemize_in-skolemize_in-requires
skolemize_in-skolemize_in-requires t c = (search (rules, the_lemmas), ex_room c.args.form.now c.args.next.now (count_in c.args.bound.now) (2 ^ 32) c.requires.numbers c.requires.depth c.in-Ex.field-0 c.get-in-Ex.result.now c.in-Ex.body _ c.in-Ex.is c.get-in-Ex.ensures (count_in-Existential c.args.next.now c.args.bound))

pub skolemize_in-returns-in_ok-skolemize_box-in-Imp-clause-made : goal.skolemize_in-returns-in_ok-skolemize_box-in-Imp-clause-made
skolemize_in-returns-in_ok-skolemize_box-in-Imp-clause-made t c =
    imp_made c.get-in-Imp.result.now c.get-in-Imp-2.result.now c.in-Imp.left c.in-Imp.right c.in_ok-first-in-Imp.first c.in_ok-skolemize_box-in-Imp.field-0 c.args.form.now c.args.next.now c.skolemize_box-in-Imp.new.next (count_in c.args.bound.now) (terms_in c.args.bound.now) c.get-in-Imp.ensures c.get-in-Imp-2.ensures
    c.in_ok-first-in-Imp.ensures.made c.in_ok-first-in-Imp.ensures.next c.in_ok-skolemize_box-in-Imp.ensures.made c.in-Imp.is

pub skolemize_in-returns-in_ok-skolemize_box-in-Iff-clause-made : goal.skolemize_in-returns-in_ok-skolemize_box-in-Iff-clause-made
skolemize_in-returns-in_ok-skolemize_box-in-Iff-clause-made t c =
    iff_made c.get-in-Iff.result.now c.get-in-Iff-2.result.now c.in-Iff.left c.in-Iff.right c.in_ok-first-in-Iff.first c.in_ok-skolemize_box-in-Iff.field-0 c.args.form.now c.args.next.now c.skolemize_box-in-Iff.new.next (count_in c.args.bound.now) (terms_in c.args.bound.now) c.get-in-Iff.ensures c.get-in-Iff-2.ensures
    c.in_ok-first-in-Iff.ensures.made c.in_ok-first-in-Iff.ensures.next c.in_ok-skolemize_box-in-Iff.ensures.made c.in-Iff.is

pub skolemize_all-loop-form-preserved : goal.skolemize_all-loop-form-preserved
skolemize_all-loop-form-preserved t c =
    let more = count_more c.args.forms.now c.loop-form.form-index c.form-item.result c.loop-form-test.true c.form-item.is in (
      omega (arith, more, c.in_ok-skolemize_in.ensures.next, c.loop-form.invariant.0),
      turn_more c.args.forms.now c.loop-form.form-index c.form-item.result c.in_ok-skolemize_in.field-0 c.loop-form.made c.push.new.self c.args.next.now c.loop-form.next (count_in c.args.bound.now) (terms_in c.args.bound.now) c.loop-form-test.true c.form-item.is c.loop-form.invariant.0 c.loop-form.invariant.1 c.in_ok-skolemize_in.ensures.made c.in_ok-push.ensures.ok,
    )
