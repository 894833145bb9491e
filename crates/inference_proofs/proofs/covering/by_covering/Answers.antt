use Rattle.std.proofs.Common.{below_more}
use Rattle.inference_proofs.proofs.Covered.{not_here, not_anywhere}
use Rattle.inference_proofs.proofs.covering.by_covering.Goals as goal

pub loop-at-preserved : goal.loop-at-preserved
loop-at-preserved c = below_more _ _ c.loop-at.invariant (not_here c.args.signature.now c.args.parents.now c.args.line.now c.in_ok-opened.opened.clause c.loop-at.at c.index-parents-at.result c.in_ok-proof.field-0 c.in_default.is c.index-parents-at.is c.in_ok-proof.ensures)

pub returns : goal.returns
returns c = not_anywhere c.args.signature.now c.args.parents.now c.args.line.now c.in_ok-opened.opened.clause c.loop-at.at c.loop-at-test.false c.loop-at.invariant c.in_ok-opened.ensures.0
