use Rattle.std.proofs.Common.{subst, sym, List, ◌≡◌, []}
use Rattle.saturation.specs.declared.member.Member.{Member}
use Rattle.saturation.specs.code.Search.{IsUnderWay, IsFound}
use Rattle.saturation.proofs.Lists.{untrue}
use Rattle.saturation.proofs.Placed.{sifted_empty}
use Rattle.saturation.proofs.sifting.sift.Goals as goal

pub returns-then-is_empty : goal.returns-then-is_empty
returns-then-is_empty c = λ v whole inputs list b h.
    subst (λ (m : Member). IsFound v whole inputs list m × (m.clause.lits ≡ [])) (sym c.in_ok-member.ensures)
    (sifted_empty v whole inputs list c.loop-next.todo c.pop.new.self c.loop-next.queue c.loop-next.heavy c.in-Some.next c.in-Some.ensures (c.loop-next.invariant v whole inputs list b h)
    (c.is_empty.ensures.0 c.if-is_empty.true))

pub loop-next-preserved : goal.loop-next-preserved
loop-next-preserved c = λ v whole inputs list b h.
    let full = untrue c.is_empty.result (c.in-Some.next.clause.lits ≡ []) c.if-is_empty.false c.is_empty.ensures in
    c.in_ok-place.ensures v whole inputs list c.pop.new.self b full
    (subst (λ (q : List Member). IsUnderWay v whole inputs list q c.loop-next.queue c.loop-next.heavy) c.in-Some.ensures (c.loop-next.invariant v whole inputs list b h))

pub returns : goal.returns
returns c = λ v whole inputs list b h.
    let none : c.loop-next.todo ≡ [] = c.in_default.ensures.0 in
    subst (λ (q : List Member). IsUnderWay v whole inputs list q c.loop-next.queue c.loop-next.heavy) none (c.loop-next.invariant v whole inputs list b h)
