use Rattle.superpose.proofs.Speaking.{draft_of_one_lacks, draft_of_two_lacks}
use Rattle.superpose.proofs.laws.drafts_bring_no_symbol.Goals as goal

pub returns-clause-of_two : goal.returns-clause-of_two
returns-clause-of_two c = λ k e d f first second draft. draft_of_two_lacks k e d f first second draft

pub returns-clause-of_one : goal.returns-clause-of_one
returns-clause-of_one c = λ k e f first draft. draft_of_one_lacks k e e f first draft
