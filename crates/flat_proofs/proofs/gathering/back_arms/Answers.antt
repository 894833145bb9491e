use Rattle.std.proofs.Common.{◌∙◌, ap, arith, map, refl, [], take}
use Rattle.flat_proofs.specs.code.Gathering.{back_arms}
use Rattle.flat_proofs.specs.code.Members.{seen}
use Rattle.flat_proofs.proofs.Arms.{back_later, back_before, back_fits, back_next}
use Rattle.flat_proofs.proofs.MemberFacts.{carried, finished, closed_count, closed_here, closed_reach, body_reach, twice_reach}
use Rattle.flat_proofs.proofs.gathering.back_arms.Goals as goal

pub bounds-closed-number : goal.bounds-closed-number
bounds-closed-number c = omega (arith, closed_count c.args.members.now c.args.closed.now c.requires.closed, c.loop-number-test.true)

pub back_arm-requires-clause-sorts : goal.back_arm-requires-clause-sorts
back_arm-requires-clause-sorts c = back_fits c.args.members.now c.loop-number.number c.index-members-number.result c.loop-number-test.true c.index-members-number.is c.args.sorts.now c.loop-number.before c.loop-number.invariant.later c.loop-number.invariant.fits

pub back_arm-requires-clause-body : goal.back_arm-requires-clause-body
back_arm-requires-clause-body c = body_reach c.args.members.now c.loop-number.number c.index-members-number.result c.loop-number-test.true c.index-members-number.is c.requires.room c.loop-number.before (omega (arith, c.loop-number.invariant.fits, c.requires.few))

pub back_arm-requires-clause-later : goal.back_arm-requires-clause-later
back_arm-requires-clause-later c = λ by le. twice_reach c.args.members.now c.loop-number.number c.index-members-number.result c.loop-number-test.true c.index-members-number.is c.requires.room c.loop-number.before by (omega (arith, c.loop-number.invariant.fits, c.requires.few)) (omega (arith, le, c.requires.few))

pub back_arm-requires-clause-closed : goal.back_arm-requires-clause-closed
back_arm-requires-clause-closed c = λ by le.
    let same = closed_here c.args.members.now c.loop-number.number c.index-members-number.result c.index-closed-number.result c.args.closed.now c.loop-number-test.true c.index-members-number.is c.requires.closed c.index-closed-number.is in
    rw same (closed_reach c.args.members.now c.loop-number.number c.index-members-number.result c.loop-number-test.true c.index-members-number.is c.requires.room by (omega (arith, le, c.requires.few)))

pub overflow_add-before : goal.overflow_add-before
overflow_add-before c = let fits = back_fits c.args.members.now c.loop-number.number c.index-members-number.result c.loop-number-test.true c.index-members-number.is c.args.sorts.now c.loop-number.before c.loop-number.invariant.later c.loop-number.invariant.fits in omega (arith, c.len-before.ensures, fits, c.requires.few)

pub loop-number-preserved : goal.loop-number-preserved
loop-number-preserved c =
    let later = c.loop-number.invariant.later in
    let fits = c.loop-number.invariant.fits in
    let same = closed_here c.args.members.now c.loop-number.number c.index-members-number.result c.index-closed-number.result c.args.closed.now c.loop-number-test.true c.index-members-number.is c.requires.closed c.index-closed-number.is in
    record {
      made =
          rw c.len-before.ensures
          (carried _ _ _ _ c.in_ok-push.ensures.ok
          (back_next c.args.members.now c.loop-number.number c.index-members-number.result c.loop-number-test.true c.index-members-number.is c.args.sorts.now c.loop-number.before later fits c.loop-number.made _ c.loop-number.number c.index-closed-number.result c.into_inner.result refl same (c.into_inner.ensures ∙ c.in_ok-arm.ensures) c.loop-number.invariant.made));
      later = rw c.len-before.ensures (back_later c.args.members.now c.loop-number.number c.index-members-number.result c.loop-number-test.true c.index-members-number.is c.args.sorts.now c.loop-number.before later fits);
      fits = rw c.len-before.ensures (back_fits c.args.members.now c.loop-number.number c.index-members-number.result c.loop-number-test.true c.index-members-number.is c.args.sorts.now c.loop-number.before later fits);
    }

pub returns : goal.returns
returns c = finished (λ ms. back_arms (take c.loop-number.before c.args.sorts.now) c.loop-number.number (map seen ms)) c.loop-number.made _ c.args.members.now c.loop-number.number c.loop-number-test.false refl c.loop-number.invariant.made
