use Rattle.subsumption.proofs.ScreenFacts.{same_atom}
use Rattle.subsumption.proofs.screening.lit_fits.Goals as goal

pub returns : goal.returns
returns c = λ e s h. c.atoms_fit.ensures e s (same_atom s c.args.lit.now c.args.target.now h)
