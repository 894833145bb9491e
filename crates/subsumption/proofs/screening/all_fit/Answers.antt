use Rattle.subsumption.proofs.MatchedFacts.{there_at}
use Rattle.subsumption.proofs.screening.all_fit.Goals as goal

pub returns-then-not-fits_one : goal.returns-then-not-fits_one
returns-then-not-fits_one c = λ _. (
  c.loop-lit.lit-index,
  c.lit-item.result,
  there_at c.args.lits.now c.loop-lit.lit-index c.lit-item.result c.loop-lit-test.true c.lit-item.is,
  c.fits_one.ensures c.if-not-fits_one.true,
)
