use Rattle.std.proofs.Common.{refl, sym, subst, ◌∙◌, ◌<◌, length}
use Rattle.skolem_proofs.proofs.Looped.{cases_next}
use Rattle.skolem_proofs.proofs.arms.cases.Goals as goal

pub loop-number-preserved : goal.loop-number-preserved
loop-number-preserved c =
    let lt : c.loop-number.number < length c.args.parts = subst (λ n. c.loop-number.number < n) (sym c.requires.each) c.loop-number-test.true in
    cases_next c.args.forms.now c.args.parts c.loop-number.left c.remove.new.self c.loop-number.made c.push.new.self c.loop-number.number c.loop-number.number c.remove.result c.into_inner.result lt c.loop-number.invariant.1 c.remove.ensures.item c.remove.ensures.rest c.loop-number.invariant.0
    (c.into_inner.ensures ∙ c.in_ok-case.ensures ∙ (rw (c.in_ok-copy_all.ensures, c.in_ok-part.ensures) refl)) refl c.in_ok-push.ensures.ok
