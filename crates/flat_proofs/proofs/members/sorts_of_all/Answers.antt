use Rattle.std.proofs.Common.{◌∙◌, ◌++◌, ap, map, refl}
use Rattle.flat_form.specs.Flat.{sorts_of}
use Rattle.flat_proofs.specs.code.Members.{seen}
use Rattle.flat_proofs.proofs.Arms.{sorts_next}
use Rattle.flat_proofs.proofs.MemberFacts.{carried, finished}
use Rattle.flat_proofs.proofs.members.sorts_of_all.Goals as goal

pub loop-member-preserved : goal.loop-member-preserved
loop-member-preserved c =
    carried c.add_sorts.new.made _ _ _ (c.in_ok-add_sorts.ensures ∙ ap (λ ss. c.loop-member.made ++ ss) c.as_slice.ensures)
    (sorts_next c.args.members.now c.loop-member.member-index c.member-item.result c.loop-member-test.true c.member-item.is c.loop-member.made _ c.loop-member.invariant)

pub returns : goal.returns
returns c = finished (λ ms. sorts_of (map seen ms)) c.loop-member.made _ c.args.members.now c.loop-member.member-index c.loop-member-test.false refl c.loop-member.invariant
