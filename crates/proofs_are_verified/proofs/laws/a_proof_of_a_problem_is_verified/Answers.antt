use Rattle.proofs_are_verified.proofs.Problems.{problem_no_fault, problem_not_stopped, problem_read, problem_verified}
use Rattle.proofs_are_verified.proofs.laws.a_proof_of_a_problem_is_verified.Goals as goal

pub returns : goal.returns
returns c = record {
  is = λ told root file limit lines v text is. problem_read told root file limit lines v text is;
  no_fault = λ told root file limit lines v text is fault first. problem_no_fault told root file limit lines v text is fault first;
  verified = λ told root file limit lines v text is checked w read asked of verified report log checks. problem_verified told root file limit lines v text is asked of checked w read verified report log checks;
  room = λ told root file limit lines v text is checked w read asked of place log stops. problem_not_stopped told root file limit lines v text is asked of checked w read place log stops;
}
