use Rattle.std.proofs.Common.{◌∙◌, ap, arith, map, refl, List}
use Rattle.fof_terms.specs.declared.form.Form.{Form}
use Rattle.kernel.specs.declared.proof.Proof.{OrI}
use Rattle.norm_proofs.specs.Numbering.{near}
use Rattle.flat_proofs.specs.code.Gathering.{or_arms}
use Rattle.flat_proofs.specs.code.Members.{seen}
use Rattle.flat_proofs.proofs.Arms.{left_less, own_left, or_next}
use Rattle.flat_proofs.proofs.MemberFacts.{carried, finished, left_within, len_here}
use Rattle.flat_proofs.proofs.gathering.or_arms.Goals as goal

pub overflow_sub-left : goal.overflow_sub-left
overflow_sub-left c = omega (arith, own_left c.args.members.now c.loop-number.number c.index-members-number.result c.loop-number-test.true c.index-members-number.is c.loop-number.left c.len-own.result (len_here c.args.members.now c.loop-number.number c.len-own.result c.index-members-number.result c.index-members-number.is c.len-own.ensures) c.loop-number.invariant.left)

pub overflow_cast-left : goal.overflow_cast-left
overflow_cast-left c =
    omega (arith, own_left c.args.members.now c.loop-number.number c.index-members-number.result c.loop-number-test.true c.index-members-number.is c.loop-number.left c.len-own.result (len_here c.args.members.now c.loop-number.number c.len-own.result c.index-members-number.result c.index-members-number.is c.len-own.ensures) c.loop-number.invariant.left, left_within c.args.members.now c.loop-number.number, c.loop-number.invariant.left, c.requires.few, c.requires.count)

pub near-requires : goal.near-requires
near-requires c =
    omega (arith, own_left c.args.members.now c.loop-number.number c.index-members-number.result c.loop-number-test.true c.index-members-number.is c.loop-number.left c.len-own.result (len_here c.args.members.now c.loop-number.number c.len-own.result c.index-members-number.result c.index-members-number.is c.len-own.ensures) c.loop-number.invariant.left, left_within c.args.members.now c.loop-number.number, c.loop-number.invariant.left, c.requires.few, c.requires.count)

pub loop-number-preserved : goal.loop-number-preserved
loop-number-preserved c =
    let i = c.loop-number.number in
    let m = c.index-members-number.result in
    let less = left_less c.args.members.now i m c.loop-number-test.true c.index-members-number.is c.loop-number.left c.len-own.result (len_here c.args.members.now c.loop-number.number c.len-own.result c.index-members-number.result c.index-members-number.is c.len-own.ensures) c.loop-number.invariant.left in
    record {
      made =
          carried _ _ _ _ c.in_ok-push.ensures.ok
          (or_next c.args.members.now i m c.loop-number-test.true c.index-members-number.is c.args.bodies.now c.loop-number.made _ _ c.len-own.result i c.into_inner.result less (len_here c.args.members.now c.loop-number.number c.len-own.result c.index-members-number.result c.index-members-number.is c.len-own.ensures) refl
          (c.into_inner.ensures ∙ (c.in_ok-arm.ensures ∙ (ap (λ (bs : List Form). OrI bs i c.in_ok-body.body) c.in_ok-copy_all.ensures ∙ ap (OrI c.args.bodies.now i) (c.in_ok-body.ensures ∙ ap (near _ c.len-own.result) c.in_ok-hyp.ensures)))) c.loop-number.invariant.made);
      left = less;
    }

pub returns : goal.returns
returns c = finished (λ ms. or_arms c.args.bodies.now c.loop-number.number (map seen ms)) c.loop-number.made _ c.args.members.now c.loop-number.number c.loop-number-test.false refl c.loop-number.invariant.made
