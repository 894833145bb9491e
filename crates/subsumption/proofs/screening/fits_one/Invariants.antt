use Rattle.subsumption.proofs.ScreenFacts.{NotBefore}
use Rattle.subsumption.proofs.screening.fits_one.Given as goal

abbrev pub invariant-loop-target : goal.invariant-loop-target
invariant-loop-target l = NotBefore l.targets l.lit l.target-index
