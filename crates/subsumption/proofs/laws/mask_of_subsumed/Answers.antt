use Rattle.subsumption.proofs.MaskFacts.{mask_subsumed}
use Rattle.subsumption.proofs.laws.mask_of_subsumed.Goals as goal

pub returns : goal.returns
returns c = mask_subsumed
