-- How a refusal of the signature shows in a theory: past a limit a declaration isn't legal.
use Rattle.fof_terms.specs.declared.signature.SigFault.{SigFault}
use Rattle.fof_terms.specs.declared.signature.SigFault.TheVariants.{Limit, Memory as no_room}
use Rattle.proof_check.specs.declared.fault.AdmitFault.{AdmitFault}
use Rattle.proof_check.specs.declared.fault.AdmitFault.TheVariants.{Illegal, Memory}

abbrev pub admit_fault : SigFault → AdmitFault
admit_fault (Limit limit) = Illegal
admit_fault no_room = Memory
