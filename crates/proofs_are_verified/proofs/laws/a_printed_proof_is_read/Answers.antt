use Rattle.proofs_are_verified.proofs.Read.{derivation_read, no_fault}
use Rattle.proofs_are_verified.proofs.laws.a_printed_proof_is_read.Goals as goal

pub returns : goal.returns
returns c = record {
  is = λ v given limit file conjecture d text p. derivation_read v given limit file conjecture d text p;
  no_fault = λ v given limit file conjecture d text p fault first. no_fault v given limit file conjecture d text p fault first;
}
