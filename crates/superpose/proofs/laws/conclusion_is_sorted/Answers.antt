use Rattle.superpose.proofs.InferLaws.{sorted_of_two, sorted_of_one}
use Rattle.superpose.proofs.laws.conclusion_is_sorted.Goals as goal

pub returns-clause-from_two : goal.returns-clause-from_two
returns-clause-from_two c = sorted_of_two

pub returns-clause-from_one : goal.returns-clause-from_one
returns-clause-from_one c = sorted_of_one
