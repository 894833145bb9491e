use Rattle.derivation_text.proofs.Bringing.{derivation_brings}
use Rattle.derivation_text.proofs.law.brought_by_the_derivation.Goals as goal

pub returns : goal.returns
returns c = derivation_brings
