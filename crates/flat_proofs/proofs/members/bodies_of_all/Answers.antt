use Rattle.std.proofs.Common.{◌∙◌, ap, arith, map, refl}
use Rattle.fof_terms.specs.Lift.{lifted}
use Rattle.flat_form.specs.Flat.{bodies_of}
use Rattle.flat_proofs.specs.code.Members.{seen}
use Rattle.flat_proofs.proofs.Arms.{after_left, more_before, own_fits, bodies_next}
use Rattle.flat_proofs.proofs.MemberFacts.{carried, finished, body_reach, twice_reach}
use Rattle.flat_proofs.proofs.members.bodies_of_all.Goals as goal

pub overflow_sub-after : goal.overflow_sub-after
overflow_sub-after c =
    omega (arith, own_fits c.args.members.now c.loop-number.number c.index-members-number.result c.loop-number-test.true c.index-members-number.is c.loop-number.before c.len-own.result c.args.count c.len-own.ensures c.loop-number.invariant.count)

pub overflow_sub-after-in-loop-number : goal.overflow_sub-after-in-loop-number
overflow_sub-after-in-loop-number c =
    omega (arith, own_fits c.args.members.now c.loop-number.number c.index-members-number.result c.loop-number-test.true c.index-members-number.is c.loop-number.before c.len-own.result c.args.count c.len-own.ensures c.loop-number.invariant.count)

pub lift-requires : goal.lift-requires
lift-requires c =
    rw c.len-own.ensures (body_reach c.args.members.now c.loop-number.number c.index-members-number.result c.loop-number-test.true c.index-members-number.is c.requires.room c.loop-number.before (omega (arith, c.loop-number.invariant.count, c.requires.few)))

pub lift-requires-in-loop-number : goal.lift-requires-in-loop-number
lift-requires-in-loop-number c =
    rw (c.in_ok-inner.ensures, c.len-own.ensures)
    (twice_reach c.args.members.now c.loop-number.number c.index-members-number.result c.loop-number-test.true c.index-members-number.is c.requires.room c.loop-number.before _ (omega (arith, c.loop-number.invariant.count, c.requires.few)) (omega (arith, c.requires.few)))

pub overflow_add-before : goal.overflow_add-before
overflow_add-before c =
    omega (arith, own_fits c.args.members.now c.loop-number.number c.index-members-number.result c.loop-number-test.true c.index-members-number.is c.loop-number.before c.len-own.result c.args.count c.len-own.ensures c.loop-number.invariant.count, c.requires.few)

pub loop-number-preserved : goal.loop-number-preserved
loop-number-preserved c =
    let i = c.loop-number.number in
    let m = c.index-members-number.result in
    let own = c.len-own.result in
    let before = c.loop-number.before in
    record {
      made =
          carried _ _ _ _ c.in_ok-push.ensures.ok
          (bodies_next c.args.members.now i m c.loop-number-test.true c.index-members-number.is c.loop-number.made _ before own _ c.in_ok-lift.field-0 c.len-own.ensures
          (after_left c.args.members.now i m c.loop-number-test.true c.index-members-number.is before own c.args.count c.len-own.ensures c.loop-number.invariant.count) (c.in_ok-lift.ensures ∙ ap (lifted _ 0) c.in_ok-inner.ensures)
          c.loop-number.invariant.made);
      count = more_before c.args.members.now i m c.loop-number-test.true c.index-members-number.is before own c.args.count c.len-own.ensures c.loop-number.invariant.count;
    }

pub returns : goal.returns
returns c = finished (λ ms. bodies_of c.loop-number.before (map seen ms)) c.loop-number.made _ c.args.members.now c.loop-number.number c.loop-number-test.false refl c.loop-number.invariant.made
