use Rattle.derivation_text.proofs.OneDerivation.{one_derivation, one_first_fault, derivation_wants}
use Rattle.derivation_text.proofs.law.one_derivation_or_fault.Goals as goal

pub returns-clause-one : goal.returns-clause-one
returns-clause-one c = one_derivation

pub returns-clause-first : goal.returns-clause-first
returns-clause-first c = one_first_fault

pub returns-clause-never_both : goal.returns-clause-never_both
returns-clause-never_both c = derivation_wants
