use Rattle.std.proofs.Common.{◌∙◌}
use Rattle.chain_proofs.specs.code.Parts.{IsRefutedBy}
use Rattle.chain_proofs.proofs.Parting.{parts_done, parts_more}
use Rattle.derive_kit.proofs.Built.{ok_map}
use Rattle.chain_proofs.proofs.refuting.refuted_by.Goals as goal

pub loop-lit-preserved : goal.loop-lit-preserved
loop-lit-preserved c =
    parts_more c.args.known.now.lits c.args.base c.args.count c.as_slice-lits.result.now c.loop-lit.lit-index c.lit-item.result c.loop-lit.parts c.push.new.self c.into_inner.result c.in_ok-place.place c.loop-lit-test.true c.lit-item.is c.loop-lit.invariant
    c.in_ok-place.ensures (c.into_inner.ensures ∙ c.in_ok-part.ensures) c.in_ok-push.ensures.ok

pub returns : goal.returns
returns c =
    ok_map c.not_e.result
    (λ p e. parts_done c.args.known.now.lits c.args.base c.args.count c.args.fact.now c.as_slice-lits.result.now c.loop-lit.lit-index c.loop-lit.parts p c.in_ok-line.field-0 c.in_ok-all.all c.as_slice-lits.ensures c.loop-lit-test.false c.loop-lit.invariant
    c.in_ok-line.ensures c.in_ok-all.ensures e)
    c.not_e.ensures
