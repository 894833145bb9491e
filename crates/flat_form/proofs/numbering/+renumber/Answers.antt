use Rattle.std.proofs.Common.{rules, arith, ◌+◌, length, map}
use Rattle.fof_terms.specs.Lift.{greatest, lift_reach, lift_term_reach}
use Rattle.fof_terms.specs.Sorts.{binder_depth}
use Rattle.fof_terms.proofs.LiftFacts.{lift_equations}
use Rattle.fof_terms.proofs.SortsFacts.{binder_depth_equations}
use Rattle.fof_terms.specs.declared.form.Form.TheViews.{the_lemmas}
use Rattle.flat_form.proofs.Rooms.{room_less, each_room}
use Rattle.flat_form.proofs.numbering.+renumber.Goals as goal

pub renumber-renumber_terms-requires-clause-room : goal.renumber-renumber_terms-requires-clause-room
renumber-renumber_terms-requires-clause-room t c =
    room_less c.args.outside (length c.args.near.now) (c.args.depth + binder_depth c.args.form.now) c.args.depth (lift_reach c.args.outside (length c.args.near.now + c.args.depth) c.args.form.now) (greatest (map (lift_term_reach c.args.outside (length c.args.near.now + c.args.depth)) c.as_slice.result.now)) c.requires.room (grind (arith, binder_depth_equations)) (grind (arith, lift_equations))

pub renumber-renumber_term-requires-clause-room : goal.renumber-renumber_term-requires-clause-room
renumber-renumber_term-requires-clause-room t c =
    room_less c.args.outside (length c.args.near.now) (c.args.depth + binder_depth c.args.form.now) c.args.depth (lift_reach c.args.outside (length c.args.near.now + c.args.depth) c.args.form.now) (lift_term_reach c.args.outside (length c.args.near.now + c.args.depth) c.in-Eq.left) c.requires.room (grind (arith, binder_depth_equations)) (grind (arith, lift_equations))

pub renumber-renumber_term-requires-in-Eq-clause-room : goal.renumber-renumber_term-requires-in-Eq-clause-room
renumber-renumber_term-requires-in-Eq-clause-room t c =
    room_less c.args.outside (length c.args.near.now) (c.args.depth + binder_depth c.args.form.now) c.args.depth (lift_reach c.args.outside (length c.args.near.now + c.args.depth) c.args.form.now) (lift_term_reach c.args.outside (length c.args.near.now + c.args.depth) c.in-Eq.right) c.requires.room (grind (arith, binder_depth_equations)) (grind (arith, lift_equations))

pub renumber-renumber_box-requires : goal.renumber-renumber_box-requires
renumber-renumber_box-requires t c = (
  search (rules, the_lemmas),
  (
    c.requires.near,
    room_less c.args.outside (length c.args.near.now) (c.args.depth + binder_depth c.args.form.now) (c.args.depth + binder_depth c.get.result.now) (lift_reach c.args.outside (length c.args.near.now + c.args.depth) c.args.form.now) (lift_reach c.args.outside (length c.args.near.now + c.args.depth) c.get.result.now) c.requires.room (grind (arith, binder_depth_equations)) (grind (arith, lift_equations)),
  ),
)

pub renumber-renumber_box-requires-in-Imp : goal.renumber-renumber_box-requires-in-Imp
renumber-renumber_box-requires-in-Imp t c = (
  search (rules, the_lemmas),
  (
    c.requires.near,
    room_less c.args.outside (length c.args.near.now) (c.args.depth + binder_depth c.args.form.now) (c.args.depth + binder_depth c.get-in-Imp.result.now) (lift_reach c.args.outside (length c.args.near.now + c.args.depth) c.args.form.now) (lift_reach c.args.outside (length c.args.near.now + c.args.depth) c.get-in-Imp.result.now) c.requires.room (grind (arith, binder_depth_equations)) (grind (arith, lift_equations)),
  ),
)

pub renumber-renumber_box-requires-in-Imp-2 : goal.renumber-renumber_box-requires-in-Imp-2
renumber-renumber_box-requires-in-Imp-2 t c = (
  search (rules, the_lemmas),
  (
    c.requires.near,
    room_less c.args.outside (length c.args.near.now) (c.args.depth + binder_depth c.args.form.now) (c.args.depth + binder_depth c.get-in-Imp-2.result.now) (lift_reach c.args.outside (length c.args.near.now + c.args.depth) c.args.form.now) (lift_reach c.args.outside (length c.args.near.now + c.args.depth) c.get-in-Imp-2.result.now) c.requires.room (grind (arith, binder_depth_equations)) (grind (arith, lift_equations)),
  ),
)

pub renumber-renumber_box-requires-in-Iff : goal.renumber-renumber_box-requires-in-Iff
renumber-renumber_box-requires-in-Iff t c = (
  search (rules, the_lemmas),
  (
    c.requires.near,
    room_less c.args.outside (length c.args.near.now) (c.args.depth + binder_depth c.args.form.now) (c.args.depth + binder_depth c.get-in-Iff.result.now) (lift_reach c.args.outside (length c.args.near.now + c.args.depth) c.args.form.now) (lift_reach c.args.outside (length c.args.near.now + c.args.depth) c.get-in-Iff.result.now) c.requires.room (grind (arith, binder_depth_equations)) (grind (arith, lift_equations)),
  ),
)

pub renumber-renumber_box-requires-in-Iff-2 : goal.renumber-renumber_box-requires-in-Iff-2
renumber-renumber_box-requires-in-Iff-2 t c = (
  search (rules, the_lemmas),
  (
    c.requires.near,
    room_less c.args.outside (length c.args.near.now) (c.args.depth + binder_depth c.args.form.now) (c.args.depth + binder_depth c.get-in-Iff-2.result.now) (lift_reach c.args.outside (length c.args.near.now + c.args.depth) c.args.form.now) (lift_reach c.args.outside (length c.args.near.now + c.args.depth) c.get-in-Iff-2.result.now) c.requires.room (grind (arith, binder_depth_equations)) (grind (arith, lift_equations)),
  ),
)

pub renumber-renumber_box-requires-in-All : goal.renumber-renumber_box-requires-in-All
renumber-renumber_box-requires-in-All t c = (
  search (rules, the_lemmas),
  (
    c.requires.near,
    room_less c.args.outside (length c.args.near.now) (c.args.depth + binder_depth c.args.form.now) (c.args.depth + 1 + binder_depth c.get-in-All.result.now) (lift_reach c.args.outside (length c.args.near.now + c.args.depth) c.args.form.now) (lift_reach c.args.outside (length c.args.near.now + (c.args.depth + 1)) c.get-in-All.result.now) c.requires.room (grind (arith, binder_depth_equations)) (grind (arith, lift_equations)),
  ),
)

pub renumber-renumber_box-requires-in-Ex : goal.renumber-renumber_box-requires-in-Ex
renumber-renumber_box-requires-in-Ex t c = (
  search (rules, the_lemmas),
  (
    c.requires.near,
    room_less c.args.outside (length c.args.near.now) (c.args.depth + binder_depth c.args.form.now) (c.args.depth + 1 + binder_depth c.get-in-Ex.result.now) (lift_reach c.args.outside (length c.args.near.now + c.args.depth) c.args.form.now) (lift_reach c.args.outside (length c.args.near.now + (c.args.depth + 1)) c.get-in-Ex.result.now) c.requires.room (grind (arith, binder_depth_equations)) (grind (arith, lift_equations)),
  ),
)

pub renumber-renumber_all-requires : goal.renumber-renumber_all-requires
renumber-renumber_all-requires t c = (
  search (rules, the_lemmas),
  (
    c.requires.near,
    room_less c.args.outside (length c.args.near.now) (c.args.depth + binder_depth c.args.form.now) (c.args.depth + greatest (map binder_depth c.as_slice-in-And.result.now)) (lift_reach c.args.outside (length c.args.near.now + c.args.depth) c.args.form.now) (greatest (map (lift_reach c.args.outside (length c.args.near.now + c.args.depth)) c.as_slice-in-And.result.now)) c.requires.room (grind (arith, binder_depth_equations)) (grind (arith, lift_equations)),
  ),
)

pub renumber-renumber_all-requires-in-Or : goal.renumber-renumber_all-requires-in-Or
renumber-renumber_all-requires-in-Or t c = (
  search (rules, the_lemmas),
  (
    c.requires.near,
    room_less c.args.outside (length c.args.near.now) (c.args.depth + binder_depth c.args.form.now) (c.args.depth + greatest (map binder_depth c.as_slice-in-Or.result.now)) (lift_reach c.args.outside (length c.args.near.now + c.args.depth) c.args.form.now) (greatest (map (lift_reach c.args.outside (length c.args.near.now + c.args.depth)) c.as_slice-in-Or.result.now)) c.requires.room (grind (arith, binder_depth_equations)) (grind (arith, lift_equations)),
  ),
)

pub renumber_all-renumber-requires : goal.renumber_all-renumber-requires
renumber_all-renumber-requires t c =
    let n = length c.args.near.now in
    let rooms = each_room c.args.outside n binder_depth (lift_reach c.args.outside (n + c.args.depth)) c.args.depth c.args.forms.now c.requires.room in
    (search (rules, the_lemmas), (c.requires.near, search (rules, rooms)))
