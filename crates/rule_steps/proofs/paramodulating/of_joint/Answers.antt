use Rattle.std.proofs.Common.{◌∙◌, ◌∷◌, ◌++◌, [], remove, slice_set, Some, None}
use Rattle.clause_rules.specs.Places.{lit_put_at}
use Rattle.clause_rules.specs.Ways.{pair_of}
use Rattle.clause_rules.proofs.Firsts.{ok_map, untrue, holds}
use Rattle.substitution_search.proofs.Narrowing.{beside_as}
use Rattle.rule_steps.proofs.ParamodulatedAt.{sorts_meet, paramodulation_sorted, paramodulation_settled}
use Rattle.rule_steps.proofs.ParamodulationCode.{spot_as, equation_as}
use Rattle.rule_steps.proofs.ParamodulationEnds.{no_joint_spot, no_joint_equation}
use Rattle.rule_steps.proofs.paramodulating.of_joint.Goals as goal

pub returns-then-not-is_one : goal.returns-then-not-is_one
returns-then-not-is_one c =
    let at = spot_as c.in_ok-joint.joint.left c.as_slice.result.now c.args.site.now.at c.as_slice-2.result.now c.args.site.now.lit (Some c.in-Some.spot) c.as_slice.ensures c.as_slice-2.ensures c.in-Some.ensures in
    let over = equation_as c.in_ok-joint.joint.right c.as_slice-in-Some.result.now c.args.reading.now.lit c.args.reading.now.flipped (Some c.in-Some-equation_in.sides) c.as_slice-in-Some.ensures c.in-Some-equation_in.ensures in
    λ more s h. untrue c.in_ok-is_one-in-Some-equation_in.is_one _ c.if-not-is_one.true c.in_ok-is_one-in-Some-equation_in.ensures
    (sorts_meet c.args.search.now.sig.now c.args.into.now c.args.from.now c.args.search.now.line.now c.requires.into c.requires.from c.requires.line c.in_ok-joint.joint c.in_ok-joint.ensures c.args.site.now.lit c.args.reading.now.lit c.args.site.now.at c.args.reading.now.flipped
    c.in-Some.spot.lit.now c.in-Some.spot.term.now c.in-Some-equation_in.sides.left.now c.in-Some-equation_in.sides.right.now at.0 at.1 over more s h)

pub settle_beside-requires-clause-sorted : goal.settle_beside-requires-clause-sorted
settle_beside-requires-clause-sorted c =
    let at = spot_as c.in_ok-joint.joint.left c.as_slice.result.now c.args.site.now.at c.as_slice-2.result.now c.args.site.now.lit (Some c.in-Some.spot) c.as_slice.ensures c.as_slice-2.ensures c.in-Some.ensures in
    let over = equation_as c.in_ok-joint.joint.right c.as_slice-in-Some.result.now c.args.reading.now.lit c.args.reading.now.flipped (Some c.in-Some-equation_in.sides) c.as_slice-in-Some.ensures c.in-Some-equation_in.ensures in
    paramodulation_sorted c.args.search.now.sig.now c.args.into.now c.args.from.now c.args.search.now.line.now c.requires.into c.requires.from c.requires.line c.in_ok-joint.joint c.in_ok-joint.ensures c.args.site.now.lit c.args.reading.now.lit c.args.site.now.at c.args.reading.now.flipped
    c.in-Some.spot.lit.now c.in-Some.spot.term.now c.in-Some-equation_in.sides.left.now c.in-Some-equation_in.sides.right.now at.0 at.1 over (holds c.in_ok-is_one-in-Some-equation_in.is_one _ c.if-not-is_one.false c.in_ok-is_one-in-Some-equation_in.ensures)
    _ (beside_as ((pair_of c.in-Some.spot.term.now c.in-Some-equation_in.sides.left.now ∷ []) ∷ []) c.args.search.now.line.now.lits (slice_set c.in_ok-joint.joint.left c.args.site.now.lit (lit_put_at c.args.site.now.at c.in-Some-equation_in.sides.right.now c.in-Some.spot.lit.now) ++ remove c.in_ok-joint.joint.right c.args.reading.now.lit) c.as_slice-in-Some-equation_in-2.result.now c.as_slice-in-Some-equation_in.result.now c.as_slice-in-Some-equation_in-2.ensures
    (c.as_slice-in-Some-equation_in.ensures ∙ c.in_ok-lits-in-Some-equation_in.ensures))

pub returns-in-Some-equation_in : goal.returns-in-Some-equation_in
returns-in-Some-equation_in c =
    let at = spot_as c.in_ok-joint.joint.left c.as_slice.result.now c.args.site.now.at c.as_slice-2.result.now c.args.site.now.lit (Some c.in-Some.spot) c.as_slice.ensures c.as_slice-2.ensures c.in-Some.ensures in
    let over = equation_as c.in_ok-joint.joint.right c.as_slice-in-Some.result.now c.args.reading.now.lit c.args.reading.now.flipped (Some c.in-Some-equation_in.sides) c.as_slice-in-Some.ensures c.in-Some-equation_in.ensures in
    ok_map c.settle_beside.result
    (paramodulation_settled c.args.search.now.sig.now c.args.into.now c.args.from.now c.args.search.now.line.now c.requires.into c.requires.from c.requires.line c.in_ok-joint.joint c.in_ok-joint.ensures c.args.site.now.lit c.args.reading.now.lit c.args.site.now.at c.args.reading.now.flipped
    c.in-Some.spot.lit.now c.in-Some.spot.term.now c.in-Some-equation_in.sides.left.now c.in-Some-equation_in.sides.right.now at.0 at.1 over (holds c.in_ok-is_one-in-Some-equation_in.is_one _ c.if-not-is_one.false c.in_ok-is_one-in-Some-equation_in.ensures)
    _ (beside_as ((pair_of c.in-Some.spot.term.now c.in-Some-equation_in.sides.left.now ∷ []) ∷ []) c.args.search.now.line.now.lits (slice_set c.in_ok-joint.joint.left c.args.site.now.lit (lit_put_at c.args.site.now.at c.in-Some-equation_in.sides.right.now c.in-Some.spot.lit.now) ++ remove c.in_ok-joint.joint.right c.args.reading.now.lit) c.as_slice-in-Some-equation_in-2.result.now c.as_slice-in-Some-equation_in.result.now c.as_slice-in-Some-equation_in-2.ensures
    (c.as_slice-in-Some-equation_in.ensures ∙ c.in_ok-lits-in-Some-equation_in.ensures)) c.requires.place) c.settle_beside.ensures

pub returns-in-Some : goal.returns-in-Some
returns-in-Some c = λ more s h.
    no_joint_equation c.args.search.now.sig.now c.args.into.now c.args.from.now c.args.search.now.line.now c.args.site.now.lit c.args.reading.now.lit c.args.site.now.at c.args.reading.now.flipped more s h c.in_ok-joint.joint c.in_ok-joint.ensures
    (equation_as c.in_ok-joint.joint.right c.as_slice-in-Some.result.now c.args.reading.now.lit c.args.reading.now.flipped None c.as_slice-in-Some.ensures c.in-None-equation_in.ensures)

pub returns : goal.returns
returns c = λ more s h.
    no_joint_spot c.args.search.now.sig.now c.args.into.now c.args.from.now c.args.search.now.line.now c.args.site.now.lit c.args.reading.now.lit c.args.site.now.at c.args.reading.now.flipped more s h c.in_ok-joint.joint c.in_ok-joint.ensures
    (spot_as c.in_ok-joint.joint.left c.as_slice.result.now c.args.site.now.at c.as_slice-2.result.now c.args.site.now.lit None c.as_slice.ensures c.as_slice-2.ensures c.in-None.ensures)
