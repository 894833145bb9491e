use Rattle.proofs_are_verified.proofs.Verified.{all_verified, not_stopped}
use Rattle.proofs_are_verified.proofs.laws.a_printed_proof_is_verified.Goals as goal

pub returns : goal.returns
returns c = record {
  verified = λ v given limit file conjecture d text p checked w is asked t asks verified report log checks. all_verified v given limit file conjecture d text p asked t asks checked w is verified report log checks;
  room = λ v given limit file conjecture d text p checked w is asked t asks place log stops. not_stopped v given limit file conjecture d text p asked t asks checked w is place log stops;
}
