use Rattle.std.proofs.Common.{rules, arith, ap, ◌∙◌, ◌-◌, ◌++◌, ◌∷◌, [], length, flat_map, map}
use Rattle.clause_form.specs.Norm.{members_of}
use Rattle.fof_terms.specs.declared.form.Form.TheViews.{the_lemmas}
use Rattle.flat_form.specs.Flat.{pulled, sorts_of}
use Rattle.flat_form.proofs.Bodies.{placed_bodies}
use Rattle.flat_form.proofs.Lists.{take_end}
use Rattle.flat_form.proofs.PullSteps.{room_for_one, under_sorts, under_body, next_sorts, next_flat, node_done, node_sorts_done}
use Rattle.flat_form.proofs.Rooms.{places_member, places_body}
use Rattle.flat_form.proofs.pulling.+pull_in.Goals as goal

pub pull_node-pull_in-requires : goal.pull_node-pull_in-requires
pull_node-pull_in-requires t c = (
  search (rules, the_lemmas),
  places_member c.args.total c.args.places.now c.loop-form.places c.args.sorts.now c.loop-form.sorts c.args.kind c.args.forms.now c.loop-form.form-index c.form-item.result c.requires c.loop-form-test.true c.form-item.is c.loop-form.invariant.met
      c.loop-form.invariant.kept,
)

pub pull_node-loop-form-preserved : goal.pull_node-loop-form-preserved
pull_node-loop-form-preserved t c =
    let i = c.loop-form.form-index in
    let a = c.form-item.result in
    record {
      met = next_sorts c.args.total c.args.places.now c.args.sorts.now c.args.kind c.args.forms.now i a c.loop-form.sorts c.pull_in.new.sorts c.loop-form-test.true c.form-item.is c.loop-form.invariant.met c.in_ok-body.ensures.sorts;
      kept = c.in_ok-body.ensures.places ∙ c.loop-form.invariant.kept;
      joined = next_flat c.args.total c.args.places.now c.args.sorts.now c.args.kind c.args.forms.now i a c.loop-form.sorts c.pull_in.new.sorts c.loop-form-test.true c.form-item.is c.loop-form.invariant.met c.loop-form.places c.in_ok-body.body c.loop-form.flat c.push_members.new.flat
          c.loop-form.invariant.kept c.loop-form.invariant.joined c.in_ok-body.ensures.body c.in_ok-push_members.ensures.ok;
    }

pub pull_node-returns-clause-sorts : goal.pull_node-returns-clause-sorts
pull_node-returns-clause-sorts t c =
    let all = take_end c.args.forms.now c.loop-form.form-index c.loop-form-test.false in
    node_sorts_done c.args.total c.args.places.now c.args.sorts.now c.args.kind c.args.forms.now c.loop-form.sorts (c.loop-form.invariant.met ∙ ap (λ bs. c.args.sorts.now ++ sorts_of (map pulled bs)) all)

pub pull_node-returns-clause-body : goal.pull_node-returns-clause-body
pull_node-returns-clause-body t c =
    let all = take_end c.args.forms.now c.loop-form.form-index c.loop-form-test.false in
    node_done c.args.total c.args.places.now c.args.sorts.now c.args.kind c.args.forms.now c.join_flat.result c.loop-form.flat
    (c.loop-form.invariant.joined ∙ ap (λ bs. flat_map (members_of c.args.kind) (placed_bodies c.args.places.now c.args.total (length c.args.sorts.now) (map pulled bs))) all) c.join_flat.ensures

pub pull_quantified-overflow_sub-total : goal.pull_quantified-overflow_sub-total
pull_quantified-overflow_sub-total t c = omega (arith, room_for_one c.args.total c.args.places.now c.args.sorts.now c.args.sort c.args.body.now c.requires)

pub pull_quantified-overflow_sub-total-2 : goal.pull_quantified-overflow_sub-total-2
pull_quantified-overflow_sub-total-2 t c = omega (arith, room_for_one c.args.total c.args.places.now c.args.sorts.now c.args.sort c.args.body.now c.requires, c.len.ensures)

pub pull_quantified-pull_in-requires : goal.pull_quantified-pull_in-requires
pull_quantified-pull_in-requires t c =
    let place = ap (λ n. c.args.places.now ++ (c.args.total - 1 - n) ∷ []) c.len.ensures in
    (search (rules, the_lemmas), places_body c.args.total c.args.places.now c.push.new.self c.args.sorts.now c.push-2.new.self c.args.sort c.args.body.now c.requires (c.in_ok-push.ensures.ok ∙ place) c.in_ok-push-2.ensures.ok)

pub pull_quantified-returns-clause-sorts : goal.pull_quantified-returns-clause-sorts
pull_quantified-returns-clause-sorts t c = under_sorts c.args.total c.args.places.now c.args.sorts.now c.args.sort c.args.body.now c.requires c.push-2.new.self c.pull_in.new.sorts c.in_ok-push-2.ensures.ok c.in_ok-made.ensures.sorts

pub pull_quantified-returns-clause-body : goal.pull_quantified-returns-clause-body
pull_quantified-returns-clause-body t c =
    let place = ap (λ n. c.args.places.now ++ (c.args.total - 1 - n) ∷ []) c.len.ensures in
    under_body c.args.total c.args.places.now c.args.sorts.now c.args.sort c.args.body.now c.requires c.push-2.new.self c.push.new.self c.in_ok-made.made c.in_ok-push-2.ensures.ok (c.in_ok-push.ensures.ok ∙ place) c.in_ok-made.ensures.body
