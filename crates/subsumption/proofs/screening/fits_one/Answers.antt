use Rattle.std.proofs.Common.{arith}
use Rattle.subsumption.proofs.MatchedFacts.{there_at}
use Rattle.subsumption.proofs.ScreenFacts.{none_more, stands_nowhere}
use Rattle.subsumption.proofs.screening.fits_one.Goals as goal

pub loop-target-preserved : goal.loop-target-preserved
loop-target-preserved c =
    none_more c.args.targets.now c.args.lit.now c.target-item.result c.loop-target.target-index (there_at c.args.targets.now c.loop-target.target-index c.target-item.result c.loop-target-test.true c.target-item.is) (c.lit_fits.ensures c.if-lit_fits.false) c.loop-target.invariant

pub returns : goal.returns
returns c = λ _. stands_nowhere c.args.targets.now c.args.lit.now c.loop-target.target-index (omega (arith, c.loop-target-test.false)) c.loop-target.invariant
