-- The first fault of a derivation is said.
use Rattle.std.proofs.Common.{ℕ, List}
use Rattle.tptp_base.specs.declared.name.Name.{Name}
use Rattle.fof_terms.specs.Vocabulary.{Vocabulary}
use Rattle.derivation_text.specs.Derivations.{IsDerivationFault}
use Rattle.derivation_text.specs.declared.fault.DerivationFault.{DerivationFault}
use Rattle.tptp_commands.specs.Derived.{IsDerivationRefusal, SaysDerivationFault}
use Rattle.read_problems.specs.Ending.{Ending}

pub said_first : (file text : List ℕ) (given : List Name) (v : Vocabulary) (fault : DerivationFault) (ending : Ending) → IsDerivationFault text given v fault → SaysDerivationFault file fault ending → IsDerivationRefusal file text given v ending
said_first file text given v fault ending first says = (fault, first, says)
