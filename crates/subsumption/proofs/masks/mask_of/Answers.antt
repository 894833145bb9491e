use Rattle.std.proofs.Common.{◌≡◌, ◌∙◌, ap, sym, subst, take, Some}
use Rattle.std.specs.Prelude.{slice_get}
use Rattle.std.specs.Int.RustNames.{bit_or}
use Rattle.subsumption.specs.Mask.{mask}
use Rattle.subsumption.proofs.MatchedFacts.{there_at}
use Rattle.subsumption.proofs.MaskFacts.{mask-nil, mask_more}
use Rattle.subsumption.proofs.masks.mask_of.Goals as goal

pub loop-lit-init : goal.loop-lit-init
loop-lit-init c = sym mask-nil

pub loop-lit-preserved : goal.loop-lit-preserved
loop-lit-preserved c =
    let there = subst (λ xs. slice_get xs c.loop-lit.lit-index ≡ Some c.lit-item.result) c.as_slice-lit-items.ensures (there_at c.as_slice-lit-items.result.now c.loop-lit.lit-index c.lit-item.result c.loop-lit-test.true c.lit-item.is) in
    ap (λ n. bit_or n c.bit_of-bits.result) c.loop-lit.invariant ∙ ap (bit_or (mask (take c.loop-lit.lit-index c.args.clause.now.lits))) c.bit_of-bits.ensures
    ∙ sym (mask_more c.args.clause.now.lits c.loop-lit.lit-index c.lit-item.result there)
