use Rattle.std.proofs.Common.{◌≡◌, refl, sym, subst, length, get_or}
use Rattle.std.specs.Prelude.{true, false}
use Rattle.saturation.specs.declared.member.Member.{Member}
use Rattle.search_proofs.specs.code.Wanting.{IsInputBelow, MarksInput}
use Rattle.search_proofs.proofs.Passing.{member_there}
use Rattle.search_proofs.proofs.WantedFacts.{marked_first, marked_more, marked_all}
use Rattle.search_proofs.proofs.wanting.wanted_inputs.Goals as goal

pub mark_input-requires : goal.mark_input-requires
mark_input-requires c = subst (λ n. IsInputBelow n c.args.last.now.origin) (sym c.in_ok-marks.ensures.count) c.requires.last

pub mark_input-requires-in-loop-at : goal.mark_input-requires-in-loop-at
mark_input-requires-in-loop-at c =
    let own = c.requires.each c.loop-at.at c.index-members-at.result (member_there c.args.members.now c.loop-at.at c.index-members-at.result c.loop-at-test.true c.index-members-at.is) in
    subst (λ (y : Member). IsInputBelow (length c.loop-at.marks) y.origin) c.index-members-at.is (subst (λ n. IsInputBelow n c.index-members-at.result.origin) (sym c.loop-at.invariant.size) own)

pub loop-at-init : goal.loop-at-init
loop-at-init c = marked_first c.args.count c.args.members.now c.args.needed.now c.args.last.now c.in_ok-marks.marks c.mark_input.new.marks c.in_ok-marks.ensures (c.mark_input.ensures.some refl)

pub loop-at-preserved : goal.loop-at-preserved
loop-at-preserved c =
    marked_more c.args.count c.args.members.now c.args.needed.now c.args.last.now c.loop-at.at c.index-members-at.result (get_or c.args.needed.now c.loop-at.at false) c.loop-at.marks c.mark_input-in-loop-at.new.marks c.loop-at-test.true c.requires.needed c.index-members-at.is refl c.loop-at.invariant
    (subst (λ (y : Member). get_or c.args.needed.now c.loop-at.at false ≡ true → MarksInput y.origin c.loop-at.marks c.mark_input-in-loop-at.new.marks) (sym c.index-members-at.is) c.mark_input-in-loop-at.ensures.some) c.mark_input-in-loop-at.ensures.none

pub returns : goal.returns
returns c = marked_all c.args.count c.args.members.now c.args.needed.now c.args.last.now c.loop-at.at c.loop-at.marks c.loop-at-test.false c.loop-at.invariant
